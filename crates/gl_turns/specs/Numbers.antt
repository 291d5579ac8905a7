-- The numbers of nodes by path, as the tree has them.
use Rattle.std.specs.Prelude.{suc, [], map, filter_map}
use Rattle.gl_meaning.specs.Changes.{Numbers}
use Rattle.gl_plain.specs.Ids.{a_node}
use Rattle.gl_plain.specs.State.{State}
use Rattle.gl_plain.specs.Live.{Live}
use Rattle.gl_turns.specs.Places.{node_in, places}

-- the path of each node with the node's own number, and the number that the next node gets
abbrev pub numbers_of : State → Live → Numbers
numbers_of st l = record { of = filter_map node_in (places [] l); next = st.next a_node }

-- the same with one more: the meaning begins with 1, and the machine with 0
abbrev pub one_more : Numbers → Numbers
one_more ns = record { of = map (λ z. (z.0, suc z.1)) ns.of; next = suc ns.next }
