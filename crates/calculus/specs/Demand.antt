-- Document 01: "First met wins". A chain of demands gives the value at its end if all are met, otherwise the refusal of the first that is not.
use Rattle.std.specs.Prelude.{Bool, true, false}

abbrev pub demand : {A : Type 0} → Bool → A → A → A
demand true refusal a = a
demand false refusal a = refusal
