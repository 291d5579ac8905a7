-- What the machine's registers stand for.
use Rattle.std.specs.Prelude.{ℕ, List, ◌∷◌, ◌++◌, map, Bool, Option, Some}
use Rattle.gl_meaning.specs.Scope.{Source}
use Rattle.gl_meaning.specs.View.{path_view}
use Rattle.gl_plain.specs.Ids as p
use Rattle.gl_plain.specs.State.{State}
use Rattle.gl_plain.specs.Live.{ItemSpot as PlainItemSpot}
use Rattle.gl_machine.specs.Code as c
use Rattle.gl_machine.specs.Mach as m
use Rattle.gl_vm.specs.View.{Tables, stamps, name_stamps, state_of}
use Rattle.gl_vm.specs.declared.vm.Vm.{Vm}
use Rattle.gl_code.specs.View.{refs_made, seen_owner, seen_sight, seen_slots}
use Rattle.gl_code.specs.CodeView.{seen_spot, seen_attr_spot, seen_item_spot, seen_choice, seen_listing, seen_code, seen_item_code}
use Rattle.gl_code.specs.declared.code.Code.{Code}
use Rattle.gl_code.specs.declared.code.ItemCode.{ItemCode}
use Rattle.gl_append.specs.declared.machine.Pushed.{Pushed}
use Rattle.gl_append.specs.declared.machine.Here.{Here}
use Rattle.gl_append.specs.declared.machine.Back.{Back}
use Rattle.gl_append.specs.declared.machine.Kind.{Kind}
use Rattle.gl_append.specs.declared.machine.Kind.TheVariants as k
use Rattle.gl_append.specs.declared.machine.Call.{Call}
use Rattle.gl_append.specs.declared.machine.Call.TheVariants as l
use Rattle.gl_append.specs.declared.machine.Frame.{Frame}
use Rattle.gl_append.specs.declared.machine.Making.{Making}
use Rattle.gl_append.specs.declared.machine.Machine.{Machine}
use Rattle.gl_code.specs.Entries.{seen_left}
use Rattle.gl_parts.specs.Parts.{seen_parts}

abbrev pub seen_pushed : Pushed → m.Pushed
seen_pushed x = (x.name, x.id.1)

abbrev pub seen_stack : List Pushed → List m.Pushed
seen_stack xs = map seen_pushed xs

abbrev pub seen_list : Tables → List Code → List c.Code
seen_list n xs = map (seen_code n) xs

abbrev pub seen_here : Tables → Here → m.Here
seen_here n h = record { path = path_view h.path; index = h.index; codes = seen_list n h.codes.items }

abbrev pub seen_back : Tables → Back → m.Back
seen_back n b = record { getter = b.getter; pc = b.pc; sight = seen_sight n b.sight; pending = stamps b.pending }

abbrev pub item_with : PlainItemSpot × (Option ℕ × c.Codes) → m.Item
item_with x = record { spot = x.0; comment = x.1.0; codes = x.1.1 }

abbrev pub seen_item : Tables → ItemCode → m.Item
seen_item n x = item_with (seen_item_code n x)

abbrev pub seen_items : Tables → List ItemCode → List m.Item
seen_items n xs = map (seen_item n) xs

abbrev pub seen_kind : Tables → Kind → m.Kind
seen_kind n (k.Element e made xs ps) = m.in_element e.1 (refs_made made) (map seen_attr_spot xs.items) (seen_parts n ps.items)
seen_kind n (k.Branch z x u) = m.in_branch (seen_choice n z) (seen_spot x) u
seen_kind n (k.Let s pending made) = m.in_let (seen_sight n s) (stamps pending) (refs_made made)
seen_kind n (k.Item i x) = m.in_item (seen_listing n i.listing) (seen_spot i.spot) i.start (seen_left i.left.items) (seen_items n i.done.items) (seen_item_spot x)
seen_kind n (k.Other z x) = m.in_other (seen_listing n z) (seen_spot x)
seen_kind n (k.Component b o block made args) =
    let i = seen_owner n o.value in let gm = p.block_id block.1 ∷ refs_made made in
    m.in_component (seen_back n b) i (p.instance_id i.id ∷ (gm ++ refs_made o.value.cells)) gm (name_stamps args.value) (Some block.1)
seen_kind n (k.Block b name made locals) = m.in_block (seen_back n b) name (refs_made made) locals

abbrev pub seen_frame : Tables → Frame → m.Frame
seen_frame n f = record { here = seen_here n f.here; kind = seen_kind n f.kind }

abbrev pub seen_frames : Tables → List Frame → List m.Frame
seen_frames n fs = map (seen_frame n) fs

abbrev pub call_kind : Tables → Call → m.Kind
call_kind n (l.Getter b) = m.in_getter (seen_back n b)
call_kind n (l.Parts b) = m.in_parts (seen_back n b)
call_kind n (l.Each i) = m.in_each (seen_listing n i.listing) (seen_spot i.spot) i.start (seen_left i.left.items) (seen_items n i.done.items)

-- Calls stand on all frames, and the body does not change in them.
abbrev pub seen_call : Tables → m.Here → Call → m.Frame
seen_call n h c = record { here = h; kind = call_kind n c }

abbrev pub seen_calls : Tables → m.Here → List Call → List m.Frame
seen_calls n h cs = map (seen_call n h) cs

abbrev pub seen_making : Tables → Making → m.Making
seen_making n k = record { tag = k.tag; class = k.class; args = name_stamps k.args; parts = seen_parts n k.parts.items; start = k.start; slots = seen_slots k.slots.items }

-- the machine, with what is kept
abbrev pub mach_by : Tables → State → Machine → m.Mach
mach_by n st a = record {
  state = st;
  stack = seen_stack a.stack.items;
  made = refs_made a.made;
  pc = a.pc;
  rest = record {
    getter = a.getter;
    sight = seen_sight n a.sight;
    pending = stamps a.pending;
    here = seen_here n a.here;
    making = seen_making n a.making;
    left = a.left;
    frames = seen_frames n a.frames.items ++ seen_calls n (seen_here n a.here) a.calls.items;
  };
}

abbrev pub mach_of : Tables → (Source → Bool) → Vm → Machine → m.Mach
mach_of n touched vm a = mach_by n (state_of n vm touched) a
