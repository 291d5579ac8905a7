-- What is asked of nodes.
use Rattle.std.specs.Prelude.{◌≡◌, Some}
use Rattle.gl_base.specs.Texts.{Text}
use Rattle.gl_arena.specs.Id.{Id}
use Rattle.gl_nodes.specs.Node as n
use Rattle.gl_nodes.specs.Tree.{Tree, node_at}
use Rattle.gl_vm.specs.Steps.{times_named}

-- it is a text
pub record IsText (t : Tree) (id : Id) : Type 0 where
  pub was : Text
  pub is : node_at t id ≡ Some (n.text was)

-- it is an element that has one attribute of that name
pub record HasOnce (t : Tree) (id : Id) (name : Text) : Type 0 where
  pub tag : Text
  pub attrs : n.Attrs
  pub is : node_at t id ≡ Some (n.element tag attrs)
  pub once : times_named name attrs ≡ 1
