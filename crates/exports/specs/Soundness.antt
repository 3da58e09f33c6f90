-- Sound plots, as C sees them: 41 comes first, and no call makes a sound plot unsound.
use Rattle.std.specs.Prelude.{ℕ, ◌≡◌, Bool, true, false, ◌&&◌, List, length, eqb}
use Rattle.calculus.specs.Refusal.{unsound}
use Rattle.calculus.specs.Answer.{number_of}
use Rattle.instance.specs.Sound.{sound}
use Rattle.exports.specs.Words.{header_length, header_of}
use Rattle.exports.specs.Calls.{decode_answer, decode_header, decode_words}
use Rattle.exports.specs.Steps.{Job, number_on, header_left, words_left}
use Rattle.exports.specs.Steps.{asks, counts, encodes, inserts, substitutes, logs, undoes, decodes}

-- the words of a header, and a plot that is sound under it
pub record SoundInstance (hs ws : List ℕ) : Type 0 where
  pub long : length hs ≡ header_length
  pub is_sound : sound (header_of hs) ws ≡ true

-- Document 02, request 10, of the row counts: "All calls that add or drop rows keep them right." Every call, accepted
-- or refused, leaves a sound plot sound, whatever else it is given, an undo too, whatever its log holds.
abbrev pub KeptSound : Type 0
KeptSound = (j : Job) (hs ws : List ℕ) → SoundInstance hs ws → SoundInstance (header_left j hs ws) (words_left j hs ws)

-- an accepted decode leaves a sound plot, whatever header and plot were before
abbrev pub ReadSound : Type 0
ReadSound =
    (card hs ws : List ℕ) → number_of (decode_answer card hs ws) ≡ 0 →
    SoundInstance (decode_header card hs ws) (decode_words card hs ws)

-- decode writes a plot and reads none
abbrev pub reads_instance : Job → Bool
reads_instance (asks qs candidate lent budget) = true
reads_instance (counts out) = true
reads_instance (encodes out) = true
reads_instance (inserts relation cells) = true
reads_instance (substitutes m c) = true
reads_instance (logs log used m c) = true
reads_instance (undoes log used) = true
reads_instance (decodes card used) = false

-- "41 also covers a wrong count": every call that reads a plot refuses one that is not sound, whatever else is at fault
abbrev pub UnsoundFirst : Type 0
UnsoundFirst =
    (j : Job) (hs ws : List ℕ) → reads_instance j ≡ true →
    eqb (length hs) header_length && sound (header_of hs) ws ≡ false → number_on j hs ws ≡ unsound
