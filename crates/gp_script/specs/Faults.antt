-- When a line is bad.
use Rattle.std.specs.Prelude.{Result, Ok, Err}
use Rattle.gp_script.specs.declared.fault.LineFault.{LineFault}
use Rattle.gp_script.specs.declared.fault.LineFault.TheVariants.{Bad, NoMemory}

-- where the fault is Bad, this holds
abbrev pub IfBad : LineFault → Type 0 → Type 0
IfBad Bad P = P
IfBad NoMemory P = Unit {0}

-- where the answer is Bad, this holds
abbrev pub OnBad : {T : Type 0} → Result T LineFault → Type 0 → Type 0
OnBad (Ok x) P = Unit {0}
OnBad (Err fault) P = IfBad fault P
