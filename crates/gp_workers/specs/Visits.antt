-- A session of a client or of a publisher.
use Rattle.gp_workers.specs.declared.visit.Visit.{Visit}
use Rattle.gp_workers.specs.declared.visit.Visit.TheVariants.{Client, Publisher}

module _ {C P : Type 0} where
  abbrev pub ended_by : (C → Type 0) → (P → Type 0) → Visit C P → Type 0
  ended_by clients publishers (Client session) = clients session
  ended_by clients publishers (Publisher session) = publishers session

module _ {C P O : Type 0} where
  abbrev pub gives_by : (C → O → Type 0) → (P → O → Type 0) → Visit C P → O → Type 0
  gives_by clients publishers (Client session) output = clients session output
  gives_by clients publishers (Publisher session) output = publishers session output
