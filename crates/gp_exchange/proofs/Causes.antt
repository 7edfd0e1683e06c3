-- What an exchange waited for stays so over the calls before and after.
use Rattle.std.proofs.Common.{ℕ, ◌≤◌, arith}
use Rattle.gp_outside.specs.Counts.{Rose}
use Rattle.gp_outside.specs.Dials.{DialTells, DialLater}
use Rattle.gp_exchange.specs.Answers.{Waits}
use Rattle.gp_exchange.specs.declared.place.Place.{Place}
use Rattle.gp_exchange.specs.declared.place.Place.TheVariants as place

pub rose_from : (a b c : ℕ) → a ≤ b → Rose b c → Rose a c
rose_from a b c le rose = omega (arith, le, rose)

pub rose_to : (a b c : ℕ) → b ≤ c → Rose a b → Rose a c
rose_to a b c le rose = omega (arith, le, rose)

pub waits_from : (old now new : DialTells) → DialLater old now → (is : Place) → Waits is now new → Waits is old new
waits_from old now new later (place.Unbegun request) w = w
waits_from old now new later (place.Connecting request) w = rose_from _ _ _ later.connect_waits w
waits_from old now new later (place.Sending sending) w = (w.0, rose_from _ _ _ later.write_waits w.1)
waits_from old now new later (place.Heading heading) w = (w.0, rose_from _ _ _ later.read_waits w.1)
waits_from old now new later (place.Reading reading) w = (w.0, rose_from _ _ _ later.read_waits w.1)
waits_from old now new later (place.Over over) w = w

pub waits_to : (old now new : DialTells) → DialLater now new → (is : Place) → Waits is old now → Waits is old new
waits_to old now new later (place.Unbegun request) w = w
waits_to old now new later (place.Connecting request) w = rose_to _ _ _ later.connect_waits w
waits_to old now new later (place.Sending sending) w = (w.0, rose_to _ _ _ later.write_waits w.1)
waits_to old now new later (place.Heading heading) w = (w.0, rose_to _ _ _ later.read_waits w.1)
waits_to old now new later (place.Reading reading) w = (w.0, rose_to _ _ _ later.read_waits w.1)
waits_to old now new later (place.Over over) w = w
