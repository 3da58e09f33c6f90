-- The log, a fill that is logged (noted) in it, and undo, which takes the latest logged fill back. Document 02, request 1: "A note is the cells' word
-- places in the plot, counted from 0, in plot order, the mark and their number, which both calls answer; a fresh log has no words in use."
use Rattle.std.specs.Prelude.{ℕ, ◌+◌, ◌-◌, Bool, ◌&&◌, List, [], ◌∷◌, ◌++◌, length, get_or, take, drop, leb, ltb}
use Rattle.calculus.specs.Answer.{Answer}
use Rattle.std.specs.Prelude.{Ok, Err}
use Rattle.calculus.specs.Answer.{after}
use Rattle.calculus.specs.Cell.{null, is_mark}
use Rattle.calculus.specs.Demand.{demand}
use Rattle.calculus.specs.Fill.{into_log, entry_length, held}
use Rattle.calculus.specs.Overwrite.{overwrite}
use Rattle.calculus.specs.declared.refusal.Refusal.TheVariants.{Unsound, LogEmpty, BadLog}
use Rattle.calculus.specs.Row.{Row}
use Rattle.instance.specs.declared.header.Header.{Header}
use Rattle.instance.specs.Sound.{sound, rows}
use Rattle.instance.specs.Substitute.{substituted, substituted_words}
use Rattle.undo_log.specs.Places.{places_of, are_places, put_at}

abbrev pub fresh : ℕ
fresh = 0

-- the entry (note) of a fill of null m, made in these rows
unfoldable pub entry_of : ℕ → List Row → List ℕ
entry_of m rs = places_of (null m) 0 rs ++ m ∷ held m rs ∷ []

-- a log with the entry of a fill of null m, made in these rows, after its words in use; the words after the entry stay
abbrev pub noted : List ℕ → ℕ → ℕ → List Row → List ℕ
noted log used m rs = take used log ++ overwrite (entry_of m rs) (drop used log)

-- a logged fill
module _ (h : Header) (ws log : List ℕ) (used m c : ℕ) where
  abbrev pub logged : Answer
  logged = substituted h ws (into_log (length log) used) m c

  abbrev pub logged_words : List ℕ
  logged_words = substituted_words h ws (into_log (length log) used) m c

  unfoldable pub logged_log : List ℕ
  logged_log = after logged (noted log used m (rows h ws)) log

  unfoldable pub logged_used : ℕ
  logged_used = after logged (used + entry_length (held m (rows h ws))) used

-- the latest entry of a log: its number of cells, its mark, its places
module _ (log : List ℕ) (used : ℕ) where
  abbrev pub last_count : ℕ
  last_count = get_or log (used - 1) 0

  abbrev pub last_mark : ℕ
  last_mark = get_or log (used - 2) 0

  abbrev pub last_places : List ℕ
  last_places = take last_count (drop (used - entry_length last_count) log)

-- undo; the log's words stay
module _ (h : Header) (ws log : List ℕ) (used : ℕ) where
  -- "49 when the words in use exceed the log or fall short of the latest note, or that note has no mark from 1 to 200 or a place that is no cell of
  -- the plot": the opposite
  unfoldable pub entry_well_formed : Bool
  entry_well_formed =
      leb used (length log) && leb (entry_length (last_count log used)) used && is_mark (last_mark log used) && are_places (rows h ws) (last_places log used)

  -- "48 when no word is in use, after 41; 49 .. after 48"
  unfoldable pub undone : Answer
  undone =
      demand (sound h ws) (Err Unsound)
      (demand (ltb 0 used) (Err LogEmpty)
      (demand entry_well_formed (Err BadLog)
      (Ok (last_count log used))))

  -- "the mark returns to exactly the cells it left"
  unfoldable pub undone_words : List ℕ
  undone_words = after undone (put_at (last_places log used) (null (last_mark log used)) ws) ws

  unfoldable pub undone_used : ℕ
  undone_used = after undone (used - entry_length (last_count log used)) used
