-- A list of values while it is being built: a hash table whose chains run through the list. A word of it holds a value plus 2^20 times a link:
-- the index, counted from 1, of the latest value before it in the same bucket, or 0 if there is none. Every cell is below 2^20.
use Rattle.std.specs.Prelude.{ℕ, ◌+◌, ◌-◌, ◌/◌, ◌%◌, ◌≤◌, ◌<◌, ◌≡◌, List, map, length, get_or, take, drop}
use Rattle.calculus.specs.Listed.{listed}
use Rattle.calculus.specs.Domain.{listing}
use Rattle.domain.specs.Bucket.{buckets, bucket_of}

abbrev pub link_unit : ℕ
link_unit = 1048576

abbrev pub word_value : ℕ → ℕ
word_value w = w % link_unit

abbrev pub word_link : ℕ → ℕ
word_link w = w / link_unit

-- the values that the first n words hold
abbrev pub values_of : ℕ → List ℕ → List ℕ
values_of n ws = map word_value (take n ws)

-- the value at index p, counted from 1, is in the bucket of c, unless p is 0
abbrev pub InBucket : List ℕ → ℕ → ℕ → Type 0
InBucket ws c p = 0 < p → bucket_of (word_value (get_or ws (p - 1) 0)) ≡ bucket_of c

-- the chain of c's bucket through the first n values goes on at index p, counted from 1: if c is among the n, it is among the first p
pub record Chain (ws : List ℕ) (c n p : ℕ) : Type 0 where
  pub within : p ≤ n
  pub same : listed c (values_of n ws) ≡ listed c (values_of p ws)
  pub bucket : InBucket ws c p

-- from each of the first n words, the chain of its bucket goes on at its link
abbrev pub Linked : List ℕ → ℕ → Type 0
Linked ws n = (i c : ℕ) → i < n → bucket_of (word_value (get_or ws i 0)) ≡ bucket_of c → Chain ws c i (word_link (get_or ws i 0))

-- the words are linked, and the chain of each bucket starts at its head
pub record Chained (heads ws : List ℕ) (n : ℕ) : Type 0 where
  pub size : length heads ≡ buckets
  pub links : Linked ws n
  pub starts : (c : ℕ) → Chain ws c n (get_or heads (bucket_of c) 0)

-- the first n values become the first m: the cells are added after them, each if it is not listed yet, and the other words stay
pub record Added (before : List ℕ) (n : ℕ) (cells after : List ℕ) (m : ℕ) : Type 0 where
  pub least : n ≤ m
  pub most : m ≤ n + length cells
  pub long : length after ≡ length before
  pub values : values_of m after ≡ listing (values_of n before) cells
  pub kept : drop m after ≡ drop m before
