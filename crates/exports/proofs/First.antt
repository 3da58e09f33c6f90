-- 41 comes before all else, whatever else a call is given. Assumes nothing.
use Prim.Native.Nat.{ℕ}
use mathlib.Core.Path.{◌≡◌, refl, sym}
use mathlib.Core.Bool.{Bool, true, false, ◌&&◌, false≢true}
use mathlib.Core.List.{List}
use lib.Dec.{eqb}
use lib.ListN.{length}
use Rattle.calculus.specs.Refusal.{unsound}
use Rattle.instance.specs.Sound.{sound}
use Rattle.instance.specs.Insert.{inserted}
use Rattle.instance.specs.Substitute.{substituted}
use Rattle.instance.specs.NullCounts.{counted}
use Rattle.undo_log.specs.Log.{undone}
use Rattle.card.specs.Encode.{encoded}
use Rattle.answer.specs.Ask.{list, none, admitted, askable, ask}
use Rattle.exports.specs.Words.{header_length, header_of}
use Rattle.exports.specs.Calls.{insert_answer, substitute_answer, log_answer, undo_answer, counts_answer, encode_answer, ask_answer}
use Rattle.exports.specs.Steps.{Job, asks, counts, encodes, inserts, substitutes, logs, undoes, decodes, number_on}
use Rattle.exports.specs.Soundness.{reads_instance, UnsoundFirst}

refused-first :
    (j : Job) (hs ws : List ℕ) → reads_instance j ≡ true → (b c : Bool) → eqb (length hs) header_length ≡ b → sound (header_of hs) ws ≡ c → b && c ≡ false →
    number_on j hs ws ≡ unsound
unfolding insert_answer inserted substitute_answer substituted log_answer undo_answer undone counts_answer counted encode_answer encoded ask_answer ask askable admitted
refused-first j hs ws k true true p q f = absurd (false≢true (sym f))
refused-first (asks qs candidate (list l) budget) hs ws k true false p q f = rw (p, q) refl
refused-first (asks qs candidate none budget) hs ws k true false p q f = rw (p, q) refl
refused-first (counts out) hs ws k true false p q f = rw (p, q) refl
refused-first (encodes out) hs ws k true false p q f = rw (p, q) refl
refused-first (inserts relation cells) hs ws k true false p q f = rw (p, q) refl
refused-first (substitutes m c) hs ws k true false p q f = rw (p, q) refl
refused-first (logs log used m c) hs ws k true false p q f = rw (p, q) refl
refused-first (undoes log used) hs ws k true false p q f = rw (p, q) refl
refused-first (decodes card used) hs ws k true false p q f = absurd (false≢true k)
refused-first (asks qs candidate lent budget) hs ws k false c p q f = rw p refl
refused-first (counts out) hs ws k false c p q f = rw p refl
refused-first (encodes out) hs ws k false c p q f = rw p refl
refused-first (inserts relation cells) hs ws k false c p q f = rw p refl
refused-first (substitutes m c') hs ws k false c p q f = rw p refl
refused-first (logs log used m c') hs ws k false c p q f = rw p refl
refused-first (undoes log used) hs ws k false c p q f = rw p refl
refused-first (decodes card used) hs ws k false c p q f = absurd (false≢true k)

pub unsound-first : UnsoundFirst
unsound-first j hs ws k f = refused-first j hs ws k (eqb (length hs) header_length) (sound (header_of hs) ws) refl refl f
