-- Whether a question ranges over values at all.
use Rattle.std.specs.Prelude.{ℕ, zero, suc, Bool, true, false, ◌||◌, List}
use Rattle.query.specs.Words.{Kind, row_stands, equals, negates, no_such_kind, joins, ranges, kind_of, word_at}

abbrev pub is_range : Kind → Bool
is_range row_stands = false
is_range equals = false
is_range negates = false
is_range no_such_kind = false
is_range (joins j) = false
is_range (ranges j) = true

-- whether one of the first k nodes does
unfoldable pub ranges_among : List ℕ → ℕ → Bool
ranges_among qs zero = false
ranges_among qs (suc k) = is_range (kind_of (word_at qs k 0)) || ranges_among qs k
