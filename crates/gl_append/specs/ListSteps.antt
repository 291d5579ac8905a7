-- What the steps of an `each` do.
use Rattle.std.specs.Prelude.{◌≡◌, ℕ, suc, List, [], ◌∷◌, ◌++◌, Bool}
use Rattle.gl_base.specs.Texts.{Text}
use Rattle.gl_meaning.specs.Path.{Path as PlainPath}
use Rattle.gl_meaning.specs.Render.{entries, values_listed}
use Rattle.gl_meaning.specs.Scope.{Source}
use Rattle.gl_plain.specs.State.{State}
use Rattle.gl_plain.specs.Naming.{by_number}
use Rattle.gl_plain.specs.Binding.{first_value}
use Rattle.gl_machine.specs.Sight.{Sight as PlainSight}
use Rattle.gl_machine.specs.Mach.{Kind as PlainKind, Pushed as PlainPushed, Mach, Run, mach, fresh, in_each}
use Rattle.gl_machine.specs.Step.{placed_top, each_into, do_item_as, next_item}
use Rattle.gl_vm.specs.View.{Tables, Agrees}
use Rattle.gl_vm.specs.declared.vm.Vm.{Vm}
use Rattle.gl_code.specs.CodeView.{seen_listing, seen_spot}
use Rattle.gl_append.specs.MachineView.{mach_by, mach_of, seen_here, seen_item, seen_items}
use Rattle.gl_code.specs.Entries.{seen_entry, seen_left}
use Rattle.gl_append.specs.Steps.{GoesOn}
use Rattle.gl_code.specs.declared.code.ItemCode.{ItemCode}
use Rattle.gl_code.specs.declared.entries.Entry.{Entry}
use Rattle.gl_append.specs.declared.machine.Iteration.{Iteration}
use Rattle.gl_append.specs.declared.machine.Machine.{Machine}

-- an `each` of the reference on the top, where these are the operands of the Item behind it
abbrev pub each_at : Text → ℕ → ℕ × ℕ → Mach → List PlainPushed × PlainPushed → Run
each_at key other o m p =
    let x = placed_top m p in
    each_into (record { key = key; value = o.0; index = o.1; body = suc (suc m.pc); other = other; sight = m.rest.sight }) x.spot (suc m.pc)
    (entries key 0 [] (values_listed (first_value x.pairs))) x.state p.0 m.rest

-- the list is between two of its items, and an address is gone to
abbrev pub list_waiting : PlainKind → ℕ → Mach → Mach
list_waiting k pc m = mach m.state m.stack [] pc (record m.rest { frames = m.rest.frames ++ record { here = m.rest.here; kind = k } ∷ [] })

-- a body is begun at a path, in what is seen there, and an address is gone to
abbrev pub body_entered : PlainSight → PlainPath → ℕ → PlainKind → Mach → Mach
body_entered w p pc k m =
    mach m.state m.stack [] pc (record m.rest {
      sight = w;
      here = fresh p;
      frames = m.rest.frames ++ record { here = m.rest.here; kind = k } ∷ [];
    })

-- An item of the list begins, whose call was taken: the first of the items that are left.
abbrev pub ItemBegins : Vm → Machine → Iteration → Entry → Vm → Machine → Type 0
ItemBegins vm old i e vm' new =
    (n : Tables) (touched : Source → Bool) → Agrees touched vm
    → GoesOn n
    (do_item_as by_number (mach_of n touched vm old) (mach_of n touched vm old).rest.frames (seen_here n old.here)
    (in_each (seen_listing n i.listing) (seen_spot i.spot) i.start (seen_entry e ∷ seen_left i.left.items) (seen_items n i.done.items))) vm' new

-- The list waits for its next item or its end, with one more item that is done.
abbrev pub ItemDone : Machine → Iteration → ItemCode → Machine → Type 0
ItemDone old i x new =
    (n : Tables) (st : State)
    → (let m = mach_by n st old in let z = seen_listing n i.listing in
    list_waiting (in_each z (seen_spot i.spot) i.start (seen_left i.left.items) (seen_items n i.done.items ++ seen_item n x ∷ [])) (next_item (seen_left i.left.items) i.start (suc m.pc))
    (record m { rest = record m.rest { sight = z.sight } }))
    ≡ mach_by n st new
