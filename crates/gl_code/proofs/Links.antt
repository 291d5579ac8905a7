-- What is passed to a component.
use Rattle.std.proofs.Common.{◌≡◌, ℕ, List, ◌∷◌, ◌∙◌, ap}
use Rattle.std.specs.declared.rc.Rc.{Rc}
use Rattle.std.specs.declared.vec.Vec.{Vec}
use Rattle.std.specs.declared.alloc.Global.{Global}
use Rattle.gl_arena.specs.Id.{Id}
use Rattle.gl_machine.specs.Sight.{Passing, passing}
use Rattle.gl_vm.specs.View.{Tables}
use Rattle.gl_code.specs.View.{seen_level, seen_links, seen_sight, seen_slots, shared}
use Rattle.gl_code.specs.declared.sight.Level.{Level}
use Rattle.gl_code.specs.declared.sight.Link.{Link}
use Rattle.gl_code.specs.declared.sight.Slot.{Slot}
use Rattle.gl_code.specs.declared.sight.Sight.{Sight}

-- what is passed stands in front
pub linked : (n : Tables) (w : Sight) (link : Rc Link Global) (front back : List (Rc Link Global)) (block : Id) (parts : ℕ) (slots : Vec Slot Global) (level : Level) → front ≡ link ∷ back → link.value ≡ record { block = block; parts = parts; slots = slots; level = level }
    → ((p : Passing) → seen_level n level p ≡ seen_level n w.level p) → shared back ≡ shared w.chain.items → seen_links n (shared front) ≡ passing block.1 parts (seen_slots slots.items) (seen_sight n w)
linked n w link front back block parts slots level e1 e2 e3 e4 =
    ap (λ xs. seen_links n (shared xs)) e1
    ∙ (ap (λ (x : Link). passing x.block.1 x.parts (seen_slots x.slots.items) (seen_level n x.level (seen_links n (shared back)))) e2
    ∙ ap (λ v. passing block.1 parts (seen_slots slots.items) v) (ap (λ ls. seen_level n level (seen_links n ls)) e4 ∙ e3 (seen_links n (shared w.chain.items))))
