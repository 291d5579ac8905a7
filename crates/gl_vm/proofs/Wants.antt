-- What stays where there was no memory.
use Rattle.std.proofs.Common.{◌≡◌, ℕ, Bool, Option, Some, None, option_map, refl, sym, ap, ap₂, ◌∙◌}
use Rattle.std.specs.Prelude.{◌==◌}
use Rattle.gl_arena.specs.Id.{Id}
use Rattle.gl_arena.specs.Arena.{Arena, named, by_stamp, IsStamped}
use Rattle.gl_tags.specs.Tags as t
use Rattle.gl_refs.specs.Forms as f
use Rattle.gl_refs.specs.State as s
use Rattle.gl_refs.specs.Refs.{Refs, rows_of, forms_of, Keeps}
use Rattle.gl_meaning.specs.Scope.{Source}
use Rattle.gl_vm.specs.Kept.{Kept, state_by}
use Rattle.gl_vm.specs.View.{Tables, stamps, seen_form, led_by, last_of, seen_row, row_of, row_at, kept_of, AgreesAt, Agrees}
use Rattle.gl_vm.specs.Steps.{Does}
use Rattle.gl_vm.specs.declared.vm.Vm.{Vm}
use Rattle.gl_vm.proofs.Sources.{value_stays, source_dirtyable}

pub keeps_forms : (a b : Refs) → Keeps a b → forms_of b ≡ forms_of a
keeps_forms a b k = λ z i. option_map (λ (x : s.Row). x.form) (named (k.rows z) i)

-- tags that say the same of each id
module _ (tags tags' : t.Tags) (same : (u : Id) → t.tag_at tags' u ≡ t.tag_at tags u) (rows : ℕ → Option s.Row) (made : ℕ) where
  last_same : (g : f.Form) (o : Option s.Last) → last_of tags' rows made g o ≡ last_of tags rows made g o
  last_same (f.constant_form v) o = refl
  last_same (f.source_form k u v) o = refl
  last_same (f.prop_form r n) o = refl
  last_same (f.call_form h ids ns) o = refl
  last_same (f.cat_form ids) o = refl
  last_same (f.all_form ids) None = refl
  last_same (f.all_form ids) (Some l) = ap (λ o. led_by (t.leads_by l.tag o) rows made) (same l.tag)

  row_same : (k : ℕ) (o : Option s.Row) → option_map (seen_row tags' rows made k) o ≡ option_map (seen_row tags rows made k) o
  row_same k None = refl
  row_same k (Some x) = ap (λ l. Some (record { form = seen_form k x.form; last = l })) (last_same x.form x.last)

module _ (vm : Vm) (r : Refs) (stamped : IsStamped vm.refs.rows) (sound : s.IsSound vm.refs.tags (rows_of vm.refs)) (keeps : Keeps vm.refs r) where
  row-is : row_at r ≡ row_at vm.refs
  row-is =
      ap (λ (a : Arena s.Row). row_of r.tags (by_stamp a) a.made) keeps.rows
      ∙ (λ z k. row_same vm.refs.tags r.tags keeps.tags (by_stamp vm.refs.rows) vm.refs.rows.made k (by_stamp vm.refs.rows k) z)

  kept-is : (n : Tables) → kept_of n (record vm { refs = r }) ≡ kept_of n vm
  kept-is n = λ z. record (kept_of n vm) { row = row-is z; rows = (ap (λ (a : Arena s.Row). a.made) keeps.rows) z; evaluated = stamps (keeps.counts.evaluated z) }

  agrees-still : (touched : Source → Bool) → Agrees touched vm → Agrees touched (record vm { refs = r })
  agrees-still touched a k x e = by x.form refl (a k x was) where
    was : by_stamp vm.refs.rows k ≡ Some x
    was = sym (ap (λ (a : Arena s.Row). by_stamp a k) keeps.rows) ∙ e

    by : (g : f.Form) → x.form ≡ g → AgreesAt vm.refs touched k g → AgreesAt r touched k g
    by (f.source_form q u w) b h =
        let d = source_dirtyable vm.refs stamped sound k x q u w was b in
        h ∙ sym (ap₂ (λ n c. n == c) (value_stays vm.refs.tags r.tags u d (keeps.tags u)) keeps.rest.clock)
    by (f.constant_form w) b h = tt
    by (f.prop_form i n) b h = tt
    by (f.call_form i ids ns) b h = tt
    by (f.cat_form ids) b h = tt
    by (f.all_form ids) b h = tt

  pub keeps_step : Does (λ n st. st) vm (record vm { refs = r })
  keeps_step n touched a = record { state = ap (λ (k : Kept). state_by k touched) (kept-is n); agrees = agrees-still touched a }
