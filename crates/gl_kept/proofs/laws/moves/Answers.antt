use Rattle.gl_kept.proofs.laws.moves.Goals as goal
use Rattle.gl_kept.proofs.Sessions.{next_moves}
use Rattle.gl_kept.proofs.TreeLists.{tree_lists_are_there, updated_moves}
use Rattle.gl_kept.proofs.Planned.{items_by_list, lists_are_entries, moved_by_plans}

pub returns-clause-items : goal.returns-clause-items
returns-clause-items c = items_by_list

pub returns-clause-entries : goal.returns-clause-entries
returns-clause-entries c = lists_are_entries

pub returns-clause-plans : goal.returns-clause-plans
returns-clause-plans c = moved_by_plans

pub returns-clause-trees : goal.returns-clause-trees
returns-clause-trees c = tree_lists_are_there

pub returns-clause-updated : goal.returns-clause-updated
returns-clause-updated c = updated_moves

pub returns-clause-next : goal.returns-clause-next
returns-clause-next c = next_moves
