-- `query::node::check_atom` meets its contract: a relation that exists has at most 6 columns. Assumes nothing.
use Prim.Native.Nat.{◌≤◌}
use native.Mathlib.Omega.{arith}
use lib.ListN.{get_or}
use Rattle.instance.specs.Header.{max_columns}
use Rattle.instance.proofs.Rows.{Headed, headed}
use Rattle.query.proofs.node.check_atom.Goals as goal
use Rattle.query.proofs.node.check_atom.Goals.{Else-header-relation}

-- the relation exists
module _ (c : Else-header-relation) where
  head : Headed c.args.header.now.relations c.args.header.now.arities
  head = headed _ _ c.requires

  columns : get_or c.args.header.now.arities c.word-relation.result 0 ≤ max_columns
  columns = (head.columns _ c.if-header-relation.false).1

pub bounds-header-relation : goal.bounds-header-relation
bounds-header-relation c = omega (arith, (head (goal.at.bounds-header-relation c).Else-header-relation).few)

pub rest_is_zero-requires : goal.rest_is_zero-requires
rest_is_zero-requires c = omega (arith, columns (goal.at.rest_is_zero-requires c).Else-header-relation)

pub check_terms-requires : goal.check_terms-requires
check_terms-requires c = omega (arith, columns (goal.at.check_terms-requires c).Else-header-relation)
