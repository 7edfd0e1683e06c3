-- What the fields say of a hold, one after another.
use Rattle.std.specs.Prelude.{ℕ, ◌==◌, ◌&&◌, nat_lt, Bool, List, [], ◌∷◌, length, bytes_eq, codes, Option, Some, None, is_some, Result, Ok, Err, if◌then◌else◌}
use Rattle.std.specs.List.{list_any}
use Rattle.gp_instruct.specs.declared.instruct.Sub.{Sub}
use Rattle.gp_instruct.specs.declared.instruct.Mode.{Mode as Hold}
use Rattle.gp_instruct.specs.declared.instruct.Mode.TheVariants.{Response, Stream}
use Rattle.gp_instruct.specs.declared.fault.InstructFault.{InstructFault}
use Rattle.gp_instruct.specs.declared.fault.InstructFault.TheVariants.{Mode, NoChannel, TooMany, Reliable, Timeout, Status}
use Rattle.gp_instruct.specs.Texts.{told}
use Rattle.gp_instruct.specs.Numbers.{seconds_of, status_of}

abbrev pub mode_named : List ℕ → Option Hold
mode_named name =
    if bytes_eq name (codes "response") then Some Response else (if bytes_eq name (codes "stream") then Some Stream else None)

-- there is a mode of this name
abbrev pub some_mode : Option Hold → Result (Option Hold) InstructFault
some_mode None = Err Mode
some_mode (Some mode) = Ok (Some mode)

-- no hold, or one
abbrev pub mode_read : List (List ℕ) → Result (Option Hold) InstructFault
mode_read [] = Ok None
mode_read (name ∷ []) = some_mode (mode_named name)
mode_read (name ∷ other ∷ more) = Err Mode

abbrev pub has_prev : List Sub → Bool
has_prev subs = list_any (λ (sub : Sub). is_some sub.prev) subs

-- a hold has a channel, there are at most 8, and a hold with a previous id has one
abbrev pub count_read : Option Hold → List Sub → Result (Unit {0}) InstructFault
count_read mode subs =
    if is_some mode && (length subs == 0) then Err NoChannel
    else (if nat_lt 8 (length subs) then Err (TooMany (told (length subs)))
    else (if is_some mode && nat_lt 1 (length subs) && has_prev subs then Err (Reliable (told (length subs))) else Ok tt))

abbrev pub some_timeout : Option ℕ → Result ℕ InstructFault
some_timeout None = Err Timeout
some_timeout (Some seconds) = Ok seconds

-- the first counts, and without one it is 55
abbrev pub timeout_read : List (List ℕ) → Result ℕ InstructFault
timeout_read [] = Ok 55
timeout_read (text ∷ more) = some_timeout (seconds_of text)

abbrev pub some_status : Option ℕ → Result (Option ℕ) InstructFault
some_status None = Err Status
some_status (Some code) = Ok (Some code)

-- the first counts
abbrev pub status_read : List (List ℕ) → Result (Option ℕ) InstructFault
status_read [] = Ok None
status_read (text ∷ more) = some_status (status_of text)
