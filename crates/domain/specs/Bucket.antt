-- The buckets of a hash table.
use Rattle.std.specs.Prelude.{ℕ, ◌*◌, ◌/◌, ◌%◌}

abbrev pub buckets : ℕ
buckets = 1024

-- the upper 10 of the lower 32 bits of a product, so that evenly spaced values spread over the buckets
abbrev pub bucket_of : ℕ → ℕ
bucket_of c = c * 2654435761 % 4294967296 / 4194304
