-- The numbers of the refusals. Document 01, "Numbers that come from the input" (10 to 29) and "Numbers that come from the state"
-- (41 to 46); document 02, request 1 (47 to 49).
use Rattle.std.specs.Prelude.{ℕ, List, ◌++◌, codes, decimal}
use Rattle.calculus.specs.declared.refusal.Refusal.{Refusal}
use Rattle.calculus.specs.declared.refusal.Refusal.TheVariants.{InputTooLong, CutShort, BadRelationCount, BadArity, NoSuchRelation, BitBeyondArity, NotACell, NullsExhausted, BytesLeftOver, BadQueryLength, BadNode, BadChild, UnboundVariable, NoSuchQueryRelation, BadCandidate, WrongRowLength, NoSuchNull, Unsound, NoRoom, NullAbsent, OutputTooShort, BufferTooShort, BudgetSpent, LogTooShort, LogEmpty, BadLog}

-- "the program's input is over 16,384 bytes"
abbrev pub input_too_long : ℕ
input_too_long = 10

-- "card or program input ends too soon"
abbrev pub cut_short : ℕ
cut_short = 11

-- "sheet count not 1 to 8"
abbrev pub bad_relation_count : ℕ
bad_relation_count = 12

-- "column count not 1 to 6"
abbrev pub bad_arity : ℕ
bad_arity = 13

-- "a row names a sheet that the head lacks"
abbrev pub no_such_relation : ℕ
no_such_relation = 14

-- "a bit stands for a column the sheet lacks"
abbrev pub bit_beyond_arity : ℕ
bit_beyond_arity = 15

-- "a field or given number is no cell"
abbrev pub not_a_cell : ℕ
not_a_cell = 16

-- "a blank would need a mark above 200"
abbrev pub nulls_exhausted : ℕ
nulls_exhausted = 17

-- "bytes follow the last row, or the program's last field"
abbrev pub bytes_left_over : ℕ
bytes_left_over = 18

-- "question not 8 to 800 words, or no multiple of 8"
abbrev pub bad_query_length : ℕ
bad_query_length = 21

-- "kind not 1 to 7, an unnamed word not 0, or a term neither value nor variable"
abbrev pub bad_node : ℕ
bad_node = 22

-- "child number not above its parent's, not below the node count, or named already; or a node above 0 that no earlier node names"
abbrev pub bad_child : ℕ
bad_child = 23

-- "quantifier variable above 15, or a variable bound by nothing"
abbrev pub unbound_variable : ℕ
unbound_variable = 24

-- "kind 1 names a sheet that the head lacks"
abbrev pub no_such_query_relation : ℕ
no_such_query_relation = 25

-- "candidate over 6 cells, or holds a number that is no cell"
abbrev pub bad_candidate : ℕ
bad_candidate = 26

-- "entered row's length is not the sheet's column count"
abbrev pub wrong_row_length : ℕ
wrong_row_length = 27

-- "mark to fill not 1 to 200"
abbrev pub no_such_null : ℕ
no_such_null = 29

-- "the plot breaks a rule of its section above, or its slice is shorter than the words in use"
abbrev pub unsound : ℕ
unsound = 41

-- "words needed exceed 4,096 or the slice"
abbrev pub no_room : ℕ
no_room = 42

-- "the mark to fill stands in no cell"
abbrev pub null_absent : ℕ
null_absent = 43

-- "output shorter than the card, or census output under 200 words"
abbrev pub output_too_short : ℕ
output_too_short = 44

-- Document 02, request 6: "The working list needs a word for each cell of the plot and each inked term"; "45 for this
-- need"
abbrev pub buffer_too_short : ℕ
buffer_too_short = 45

-- "the question's looks exceed the allowance (32 bits)"
abbrev pub budget_spent : ℕ
budget_spent = 46

-- "the log lacks two words plus one per cell to note"
abbrev pub log_too_short : ℕ
log_too_short = 47

-- "no word is in use"
abbrev pub log_empty : ℕ
log_empty = 48

-- "the words in use exceed the log or fall short of the latest note, or that note has no mark from 1 to 200 or a place that is no cell of the plot"
abbrev pub bad_log : ℕ
bad_log = 49

-- the number that a refusal has in the paper
abbrev pub refusal_number : Refusal → ℕ
refusal_number InputTooLong = input_too_long
refusal_number CutShort = cut_short
refusal_number BadRelationCount = bad_relation_count
refusal_number BadArity = bad_arity
refusal_number NoSuchRelation = no_such_relation
refusal_number BitBeyondArity = bit_beyond_arity
refusal_number NotACell = not_a_cell
refusal_number NullsExhausted = nulls_exhausted
refusal_number BytesLeftOver = bytes_left_over
refusal_number BadQueryLength = bad_query_length
refusal_number BadNode = bad_node
refusal_number BadChild = bad_child
refusal_number UnboundVariable = unbound_variable
refusal_number NoSuchQueryRelation = no_such_query_relation
refusal_number BadCandidate = bad_candidate
refusal_number WrongRowLength = wrong_row_length
refusal_number NoSuchNull = no_such_null
refusal_number Unsound = unsound
refusal_number NoRoom = no_room
refusal_number NullAbsent = null_absent
refusal_number OutputTooShort = output_too_short
refusal_number BufferTooShort = buffer_too_short
refusal_number BudgetSpent = budget_spent
refusal_number LogTooShort = log_too_short
refusal_number LogEmpty = log_empty
refusal_number BadLog = bad_log

-- what is printed of a refusal
abbrev pub refusal_text : Refusal → List ℕ
refusal_text why = codes "refused " ++ decimal (refusal_number why)
