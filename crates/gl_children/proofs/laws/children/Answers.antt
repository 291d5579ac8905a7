use Rattle.gl_children.proofs.laws.children.Goals as goal
use Rattle.gl_children.proofs.Children.{children_have_places, top_is_drawn, children_are_drawn, updated_children, children_by}

pub returns-clause-places : goal.returns-clause-places
returns-clause-places c = children_have_places

pub returns-clause-top : goal.returns-clause-top
returns-clause-top c = top_is_drawn

pub returns-clause-kids : goal.returns-clause-kids
returns-clause-kids c = children_are_drawn

pub returns-clause-updated : goal.returns-clause-updated
returns-clause-updated c = updated_children

pub returns-clause-numbers : goal.returns-clause-numbers
returns-clause-numbers c = children_by
