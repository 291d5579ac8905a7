-- The values of modifiers in a log: who owns an action doesn't matter.
use Rattle.std.proofs.Common.{◌≡◌, ℕ, List, [], ◌∷◌, ◌++◌, flat_map, Some, refl, sym, ap, ap₂, ◌∙◌}
use Rattle.gl_base.specs.Texts.{Text}
use Rattle.gl_value.specs.Value.{Value, text_of}
use Rattle.gl_value.specs.Quote.{quoted}
use Rattle.gl_value.proofs.Owners.{rules_leave_owners}
use Rattle.gl_meaning.specs.Signs.{blank, equals}
use Rattle.gl_arena.specs.Id.{Id}
use Rattle.gl_arena.specs.Arena.{named}
use Rattle.gl_mods.specs.Mods.{Installed, Mods}
use Rattle.gl_lines.specs.Lines.{values_text, modifier_line}
use Rattle.gl_texts.specs.Lines.{told_row}
use Rattle.gl_plain.specs.State.{modifier_row}
use Rattle.gl_vm.specs.Labels.{owner_path, all_labelled, names_labelled}
use Rattle.gl_vm.specs.View.{Tables, seen_modifier}
use Rattle.gl_vm.specs.declared.vm.Vm.{Vm}
use Rattle.gl_session.specs.Writing.{told_id}
use Rattle.std.specs.Prelude.{option_map}

by_place : (vs : List (Value ℕ)) → flat_map (λ v. blank ∷ quoted (text_of v)) (all_labelled vs) ≡ flat_map (λ v. blank ∷ quoted (text_of v)) vs
by_place [] = refl
by_place (v ∷ vs) = ap₂ (λ (t u : Text). (blank ∷ quoted t) ++ u) (rules_leave_owners owner_path v).1 (by_place vs)

by_name : (ns : List (Text × Value ℕ)) → flat_map (λ n. blank ∷ (n.0 ++ equals ∷ quoted (text_of n.1))) (names_labelled ns) ≡ flat_map (λ n. blank ∷ (n.0 ++ equals ∷ quoted (text_of n.1))) ns
by_name [] = refl
by_name (n ∷ ns) = ap₂ (λ (t u : Text). (blank ∷ (n.0 ++ equals ∷ quoted t)) ++ u) (rules_leave_owners owner_path n.1).1 (by_name ns)

-- the line of a modifier that an id names
pub told_line_is : (word : Text) (n : Tables) (vm : Vm) (id : Id) (x : Installed) (number : ℕ) (name : Text) → named vm.mods.table id ≡ Some x → number ≡ x.node.1 → name ≡ n.modifier x.name
    → modifier_line word number name (values_text x.args x.named) ≡ told_id word n vm id
unfolding told_id
told_line_is word n vm id x number name e k m =
    ap (λ q. modifier_line word q name (values_text x.args x.named)) k
    ∙ (ap (λ y. modifier_line word x.node.1 y (values_text x.args x.named)) m
    ∙ (ap (modifier_line word x.node.1 (n.modifier x.name)) (sym (ap₂ (λ t u. t ++ u) (by_place x.args) (by_name x.named)))
    ∙ ap (λ o. told_row word (option_map (λ y. modifier_row (seen_modifier n y)) o)) (sym e)))

-- what is committed has the same lines
pub told_same : (word : Text) (n : Tables) (vm : Vm) (mods : Mods) → mods.table ≡ vm.mods.table → told_id word n (record vm { mods = mods }) ≡ told_id word n vm
unfolding told_id
told_same word n vm mods e = λ z id. told_row word (option_map (λ y. modifier_row (seen_modifier n y)) (named (e z) id))
