-- The bindings of nulls that are made while two rows are compared.
use Rattle.std.specs.Prelude.{ℕ, Option, Some, None, List, fold, cond, ltb}
use Rattle.calculus.specs.Cell.{constants}
use Rattle.calculus.specs.Unify.{bind}
use Rattle.lookup.specs.declared.row.Binding.{Binding}

-- a cell after bindings, in order
abbrev pub through : List Binding → ℕ → ℕ
through bs c = fold (λ x b. bind b.null b.cell x) c bs

-- what makes two different cells equal: the first is replaced if it is a null, otherwise the second if it is one
abbrev pub binding_of : ℕ → ℕ → Option Binding
binding_of x y =
    cond (ltb x constants) (cond (ltb y constants) None (Some (record { null = y; cell = x })))
    (Some (record { null = x; cell = y }))
