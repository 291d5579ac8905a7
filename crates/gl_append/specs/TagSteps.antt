-- What the end of a tag does with its parts, and the end of an element with its modifiers.
use Rattle.std.specs.Prelude.{ℕ, suc, List, [], ◌∷◌, ◌++◌}
use Rattle.gl_meaning.specs.Path.{Path}
use Rattle.gl_meaning.specs.Parts.{Attrs}
use Rattle.gl_plain.specs.Ids.{a_node}
use Rattle.gl_plain.specs.State.{element_content}
use Rattle.gl_plain.specs.Live.{AttrSpot}
use Rattle.gl_plain.specs.Grow.{made_node}
use Rattle.gl_plain.specs.Tags.{Waiting}
use Rattle.gl_machine.specs.Mach.{Mach, Run, go, mach, idle, fresh, next_at, in_element}

-- Attributes

-- Elements

-- the node is made, and the element's body is begun
abbrev pub element_begun : Attrs → List AttrSpot → Mach → Run
element_begun attrs spots m =
    let k = m.rest.making in
    go (made_node (element_content k.tag attrs) m.state) m.stack [] (suc m.pc) (record m.rest {
      making = idle;
      here = fresh (next_at m.rest.here);
      frames = m.rest.frames ++ record { here = m.rest.here; kind = in_element (m.state.next a_node) m.made spots k.parts } ∷ [];
    })

-- the body of an element with that node is begun at a path
abbrev pub element_entered : ℕ → List AttrSpot → List Waiting → Path → Mach → Mach
element_entered node spots parts p m =
    mach m.state m.stack [] (suc m.pc) (record m.rest { here = fresh p; frames = m.rest.frames ++ record { here = m.rest.here; kind = in_element node m.made spots parts } ∷ [] })
