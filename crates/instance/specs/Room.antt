-- Room for words. Document 01, number 42: "words needed exceed 4,096 or the slice".
use Rattle.std.specs.Prelude.{ℕ, Bool, ◌&&◌, leb}
use Rattle.instance.specs.Header.{max_words}

-- the opposite, for n words in a slice of the given length
abbrev pub has_room : ℕ → ℕ → Bool
has_room n slice = leb n max_words && leb n slice
