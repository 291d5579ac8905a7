-- The beginning of a turn: nothing is touched, and nothing was done.
use Rattle.std.proofs.Common.{◌≡◌, ℕ, ◌+◌, ◌≤◌, true, false, Option, Some, None, option_map, [], refl, sym, ap, arith}
use Rattle.gl_arena.specs.Id.{Id}
use Rattle.gl_arena.specs.Arena.{by_stamp, IsStamped}
use Rattle.gl_tags.specs.Tags as t
use Rattle.gl_mods.specs.Mods as m
use Rattle.gl_refs.specs.Forms as f
use Rattle.gl_refs.specs.State as s
use Rattle.gl_refs.specs.Refs.{Refs, rows_of}
use Rattle.gl_plain.specs.Turns.{begin}
use Rattle.gl_vm.specs.Kept.{Kept, state_by}
use Rattle.gl_vm.specs.View.{Tables, seen_form, last_of, seen_row, kept_of, AgreesAt, Agrees}
use Rattle.gl_vm.specs.Steps.{Does}
use Rattle.gl_vm.specs.declared.vm.Vm.{Vm}
use Rattle.gl_vm.proofs.States.{test_no}
use Rattle.gl_vm.proofs.Sources.{source_dirtyable}

-- what is kept of references doesn't ask the clock
module _ (tags : t.Tags) (c : ℕ) (rows : ℕ → Option s.Row) (made : ℕ) where
  last_still : (g : f.Form) (o : Option s.Last) → last_of (record tags { clock = c }) rows made g o ≡ last_of tags rows made g o
  last_still (f.constant_form v) o = refl
  last_still (f.source_form k u v) o = refl
  last_still (f.prop_form r n) o = refl
  last_still (f.call_form h ids ns) o = refl
  last_still (f.cat_form ids) o = refl
  last_still (f.all_form ids) None = refl
  last_still (f.all_form ids) (Some l) = refl

  row_still : (k : ℕ) (o : Option s.Row) → option_map (seen_row (record tags { clock = c }) rows made k) o ≡ option_map (seen_row tags rows made k) o
  row_still k None = refl
  row_still k (Some x) = ap (λ l. Some (record { form = seen_form k x.form; last = l })) (last_still x.form x.last)

-- the revision of a source isn't above the clock
value_low : (tags : t.Tags) (o : Option t.Tag) → t.is_dirtyable o ≡ true → t.IsRight tags.tags tags.clock tags.count o → t.value_by t.revision tags.tags o ≤ tags.clock
value_low tags (Some (t.dirtyable r o)) d h = h.0
value_low tags (Some t.constant) d h = let no : false ≡ true = d in absurd (cc)
value_low tags (Some (t.combined ls)) d h = let no : false ≡ true = d in absurd (cc)
value_low tags None d h = let no : false ≡ true = d in absurd (cc)

pub revision_low : (tags : t.Tags) (u : Id) → t.IsSound tags → t.is_dirtyable (t.tag_at tags u) ≡ true → t.value_of tags u ≤ tags.clock
revision_low tags u sound d = value_low tags (t.tag_at tags u) d (sound.right u)

module _ (vm : Vm) (stamped : IsStamped vm.refs.rows) (sound : s.IsSound vm.refs.tags (rows_of vm.refs)) where
  abbrev pub begun : Refs
  begun = record vm.refs { tags = record vm.refs.tags { clock = vm.refs.tags.clock + 1 }; evaluated = [] }

  abbrev done : m.Mods
  done = record vm.mods { installs = []; updates = [] }

  abbrev pub begun_vm : Vm
  begun_vm = record vm { refs = begun; mods = done }

  kept-is : (n : Tables) → kept_of n begun_vm ≡ record (kept_of n vm) { evaluated = []; installs = []; updates = [] }
  kept-is n = λ z. record (kept_of n vm) { row = λ k. row_still vm.refs.tags (vm.refs.tags.clock + 1) (by_stamp vm.refs.rows) vm.refs.rows.made k (by_stamp vm.refs.rows k) z; evaluated = []; installs = []; updates = [] }

  pub untouched : Agrees (λ x. false) begun_vm
  untouched k x e = by x.form refl where
    by : (g : f.Form) → x.form ≡ g → AgreesAt begun (λ x. false) k g
    by (f.source_form q u w) b =
        let d = source_dirtyable vm.refs stamped sound k x q u w e b in
        let low = revision_low vm.refs.tags u sound.tags_sound d in
        sym (test_no (vm.refs.tags.clock + 1) (t.value_of vm.refs.tags u) (λ y. absurd (omega (arith, low, y))))
    by (f.constant_form w) b = tt
    by (f.prop_form i n) b = tt
    by (f.call_form i ids ns) b = tt
    by (f.cat_form ids) b = tt
    by (f.all_form ids) b = tt

  pub begin_step : Does (λ n. begin) vm begun_vm
  begin_step n touched a = record { state = ap (λ (k : Kept). state_by k (λ x. false)) (kept-is n); agrees = untouched }
