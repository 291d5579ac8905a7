-- What the code's scopes stand for.
use Rattle.std.specs.Prelude.{ℕ, List, [], ◌∷◌, map}
use Rattle.gl_base.specs.Texts.{Text}
use Rattle.gl_arena.specs.Id.{Id}
use Rattle.gl_meaning.specs.View.{path_view}
use Rattle.gl_plain.specs.Ids as p
use Rattle.gl_plain.specs.State.{named_as, Inst}
use Rattle.gl_machine.specs.Sight as s
use Rattle.gl_vm.specs.View.{Tables, stamps, name_stamps}
use Rattle.gl_code.specs.declared.sight.Owner.{Owner}
use Rattle.gl_code.specs.declared.sight.Level.{Level}
use Rattle.gl_code.specs.declared.sight.Slot.{Slot}
use Rattle.gl_code.specs.declared.sight.Link.{Link}
use Rattle.gl_code.specs.declared.sight.Sight.{Sight}
use Rattle.std.specs.declared.rc.Rc.{Rc}
use Rattle.std.specs.declared.alloc.Global.{Global}

-- references that were made, as ids
abbrev pub refs_made : List Id → List p.Id
refs_made ids = map (λ i. p.ref i.1) ids

abbrev pub seen_owner : Tables → Owner → Inst
seen_owner n o = record { id = o.id.1; path = path_view o.path; cells = named_as (n.fields o.class) (stamps o.cells) }

abbrev pub seen_locals : List (ℕ × Id) → s.Locals
seen_locals ls = map (λ e. (e.0, e.1.1)) ls

abbrev pub seen_slot : Slot → Text × ℕ
seen_slot x = (x.name, x.start)

abbrev pub seen_slots : List Slot → List (Text × ℕ)
seen_slots xs = map seen_slot xs

-- what a template sees of its own, with what was passed to it
abbrev pub seen_level : Tables → Level → s.Passing → s.Sight
seen_level n x w = s.sight x.owner.value.class (seen_owner n x.owner.value) (name_stamps x.args.value) (seen_locals x.locals) w

abbrev pub seen_links : Tables → List Link → s.Passing
seen_links n [] = s.not_passed
seen_links n (x ∷ xs) = s.passing x.block.1 x.parts (seen_slots x.slots.items) (seen_level n x.level (seen_links n xs))

-- what is shared, as itself
abbrev pub shared : {A : Type 0} → List (Rc A Global) → List A
shared xs = map (λ x. x.value) xs

abbrev pub seen_sight : Tables → Sight → s.Sight
seen_sight n x = seen_level n x.level (seen_links n (shared x.chain.items))

-- what a getter of the same instance sees
abbrev pub own_of : s.Sight → s.Sight
own_of x = s.sight (s.class_of x) (s.inst_in x) (s.args_in x) [] s.not_passed
