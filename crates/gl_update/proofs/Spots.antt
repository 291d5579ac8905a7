-- Positions: what they read, whether they are stale, and what they do.
use Rattle.std.proofs.Common.{◌≡◌, ℕ, ◌+◌, ◌<◌, ◌≤◌, Bool, true, false, Option, Some, None, option_map, List, [], ◌∷◌, map, drop, length, get_or, refl, sym, ◌∙◌, ap, ap₂, subst, arith}
use Rattle.std.proofs.lemmas.List.{drop_all}
use Rattle.std.specs.Prelude.{if◌then◌else◌, Result, Ok, Err, IfOk}
use Rattle.gl_arena.specs.Id.{Id}
use Rattle.gl_arena.specs.Arena.{by_stamp, IsStamped}
use Rattle.gl_arena.proofs.Stamps.{by_stamp-live}
use Rattle.gl_base.specs.Texts.{Text}
use Rattle.gl_base.proofs.Lists.{drop_item}
use Rattle.gl_value.specs.Value.{text_of}
use Rattle.gl_refs.specs.Forms as f
use Rattle.gl_refs.specs.Refs.{rows_of, forms_of}
use Rattle.gl_meaning.specs.Scope.{Source, Pair}
use Rattle.gl_meaning.specs.Parts.{attribute_value}
use Rattle.gl_meaning.specs.Path.{V}
use Rattle.gl_meaning.specs.Eval.{values_in}
use Rattle.gl_plain.specs.Ids.{ref, node, modifier_id}
use Rattle.gl_plain.specs.State.{content, text_content, row, pair_of, instance_row, block_row, Installed, modifier_row, Thing, State, put_thing, note_updated}
use Rattle.gl_plain.specs.Live as l
use Rattle.gl_plain.specs.Tags.{first_values, named_with, values_from}
use Rattle.gl_plain.specs.Binding.{first_value}
use Rattle.gl_plain.specs.Renew.{spot_ids, spot_pairs, form_ids, is_stale, evaluate, reread, changed_attr, renew_text, renew_attrs, renew_mods, refreshed}
use Rattle.gl_vm.specs.View.{Tables, stamps, state_of, Agrees, seen_form, seen_row}
use Rattle.gl_vm.specs.Steps.{Does, Follows, put_attr, put_args, given_args}
use Rattle.gl_vm.specs.declared.vm.Vm.{Vm}
use Rattle.gl_vm.proofs.Settled.{some_row}

-- what a position reads stands in the state
pub reads_are : (n : Tables) (vm : Vm) (u : Source → Bool) (id : Id) (ids : List Id) → IsStamped vm.refs.rows → forms_of vm.refs id ≡ Some (f.all_form ids) → spot_ids ((state_of n vm u).look (ref id.1)) ≡ stamps ids
reads_are n vm u id ids stamped e =
    let x = some_row (rows_of vm.refs id) (f.all_form ids) e in
    let at : by_stamp vm.refs.rows id.1 ≡ Some x.0 = by_stamp-live vm.refs.rows id x.0 stamped x.1 in
    ap (λ o. spot_ids (option_map row (option_map (seen_row vm.refs.tags (by_stamp vm.refs.rows) vm.refs.rows.made id.1) o))) at
    ∙ ap (λ g. form_ids (seen_form id.1 g)) x.2

pub pairs_are : (n : Tables) (vm : Vm) (u : Source → Bool) (id : Id) (ids : List Id) → IsStamped vm.refs.rows → forms_of vm.refs id ≡ Some (f.all_form ids) → spot_pairs (state_of n vm u) id.1 ≡ map (pair_of (state_of n vm u).look) (stamps ids)
pairs_are n vm u id ids stamped e = ap (map (pair_of (state_of n vm u).look)) (reads_are n vm u id ids stamped e)

-- the value of the first
pub first_is : (g : ℕ → Pair) (ids : List Id) (x : Id) → 1 ≤ length ids → x ≡ get_or ids 0 x → first_value (map g (stamps ids)) ≡ (g x.1).value
first_is g [] x le e = absurd (omega (arith, le))
first_is g (i ∷ is) x le e = ap (λ (z : Id). (g z.1).value) (sym e)

-- what is so of a value is another thing that is so
pub if_ok : {T E : Type 0} {P Q : T → Type 0} (r : Result T E) → ((x : T) → P x → Q x) → IfOk r P → IfOk r Q
if_ok (Ok x) g p = g x p
if_ok (Err e) g p = tt

-- Steps.

-- one after another
pub does_then : (g h : Tables → State → State) (a b c : Vm) → Does g a b → Does h b c → Does (λ n st. h n (g n st)) a c
does_then g h a b c d e n u ag =
    let x = d n u ag in
    subst (λ st. Follows n (h n st) c) x.state (e n (g n (state_of n a u)).touched x.agrees)

-- the same step, seen at what is kept
pub does_as : (g h : Tables → State → State) (a b : Vm) → Does g a b → ((n : Tables) (u : Source → Bool) → Agrees u a → g n (state_of n a u) ≡ h n (state_of n a u)) → Does h a b
does_as g h a b d e n u ag = subst (λ st. Follows n st b) (e n u ag) (d n u ag)

-- whether a position is stale
abbrev pub IsStale : ℕ → Vm → Bool → Type 0
IsStale id a w = (n : Tables) (u : Source → Bool) → Agrees u a → is_stale (state_of n a u) id ≡ w

module _ (id : ℕ) (a b : Vm) (still : Does (λ n st. st) a b) where
  -- nothing, where it is not stale
  pub unless_stale : (g h : Tables → State → State) → ((n : Tables) (st : State) → h n st ≡ (if is_stale st id then g n st else st)) → IsStale id a false → Does h a b
  unless_stale g h e w = does_as (λ n st. st) h a b still (λ n u ag. sym (e n (state_of n a u) ∙ ap (λ t. if t then g n (state_of n a u) else state_of n a u) (w n u ag)))

  -- that, where it is
  pub where_stale : (c : Vm) (g h : Tables → State → State) → ((n : Tables) (st : State) → h n st ≡ (if is_stale st id then g n st else st)) → IsStale id a true → Does g b c → Does h a c
  where_stale c g h e w d =
      does_as g h a c (does_then (λ n st. st) g a b c still d) (λ n u ag. sym (e n (state_of n a u) ∙ ap (λ t. if t then g n (state_of n a u) else state_of n a u) (w n u ag)))

  pub reread_idle : IsStale id a false → Does (λ n. reread id) a b
  reread_idle w = unless_stale (λ n. evaluate id) (λ n. reread id) (λ n st. refl) w

  pub reread_done : (c : Vm) → IsStale id a true → Does (λ n. evaluate id) b c → Does (λ n. reread id) a c
  reread_done c w d = where_stale c (λ n. evaluate id) (λ n. reread id) (λ n st. refl) w d

-- A text

pub text_idle : (s id : ℕ) (a b : Vm) → Does (λ n st. st) a b → IsStale id a false → Does (λ n. renew_text s id) a b
text_idle s id a b still w =
    unless_stale id a b still (λ n st. put_thing (node s) (content (text_content (text_of (first_value (spot_pairs st id))))) (evaluate id st)) (λ n. renew_text s id) (λ n st. refl) w

pub text_renewed : (s id : ℕ) (t : Text) (a b c d : Vm) → Does (λ n st. st) a b → IsStale id a true → ((n : Tables) (u : Source → Bool) → text_of (first_value (spot_pairs (state_of n b u) id)) ≡ t) → Does (λ n. evaluate id) b c
    → Does (λ n. put_thing (node s) (content (text_content t))) c d → Does (λ n. renew_text s id) a d
text_renewed s id t a b c d still w v e p =
    let g : Tables → State → State = λ n st. put_thing (node s) (content (text_content (text_of (first_value (spot_pairs st id))))) (evaluate id st) in
    let h : Tables → State → State = λ n st. put_thing (node s) (content (text_content t)) (evaluate id st) in
    where_stale id a b still d g (λ n. renew_text s id) (λ n st. refl) w
    (does_as h g b d (does_then (λ n. evaluate id) (λ n. put_thing (node s) (content (text_content t))) b c d e p)
    (λ n u ag. ap (λ x. put_thing (node s) (content (text_content x)) (evaluate id (state_of n b u))) (sym (v n u))))

-- An attribute

abbrev attr_put : ℕ → l.AttrSpot → Tables → State → State
attr_put s x n st = put_thing (node s) (content (changed_attr x.name (attribute_value (spot_pairs st x.spot.ref)) (st.look (node s)))) (evaluate x.spot.ref st)

pub attr_idle : (s : ℕ) (x : l.AttrSpot) (a b : Vm) → Does (λ n st. st) a b → IsStale x.spot.ref a false → Does (λ n. renew_attrs s (x ∷ [])) a b
attr_idle s x a b still w = unless_stale x.spot.ref a b still (attr_put s x) (λ n. renew_attrs s (x ∷ [])) (λ n st. refl) w

pub attr_renewed : (s : ℕ) (x : l.AttrSpot) (o : Option Text) (a b c d : Vm) → Does (λ n st. st) a b → IsStale x.spot.ref a true → ((n : Tables) (u : Source → Bool) → attribute_value (spot_pairs (state_of n b u) x.spot.ref) ≡ o)
    → Does (λ n. evaluate x.spot.ref) b c → Does (λ n. put_attr s x.name o) c d → Does (λ n. renew_attrs s (x ∷ [])) a d
attr_renewed s x o a b c d still w v e p =
    let h : Tables → State → State = λ n st. put_attr s x.name o (evaluate x.spot.ref st) in
    where_stale x.spot.ref a b still d (attr_put s x) (λ n. renew_attrs s (x ∷ [])) (λ n st. refl) w
    (does_as h (attr_put s x) b d (does_then (λ n. evaluate x.spot.ref) (λ n. put_attr s x.name o) b c d e p)
    (λ n u ag. let st = state_of n b u in ap (λ y. put_thing (node s) (content (changed_attr x.name y (st.look (node s)))) (evaluate x.spot.ref st)) (sym (v n u))))

-- A modifier

refreshed-is : (m : l.ModSpot) (vs : List V) (o : Option Thing) → given_args (first_values m.positional vs) (named_with m.names (values_from m.positional vs)) o ≡ refreshed m vs o
refreshed-is m vs None = refl
refreshed-is m vs (Some (row x)) = refl
refreshed-is m vs (Some (content x)) = refl
refreshed-is m vs (Some (instance_row x)) = refl
refreshed-is m vs (Some block_row) = refl
refreshed-is m vs (Some (modifier_row x)) = refl

abbrev mod_put : l.ModSpot → Tables → State → State
mod_put m n st = note_updated m.id (put_thing (modifier_id m.id) (modifier_row (refreshed m (values_in (spot_pairs st m.spot.ref)) (st.look (modifier_id m.id)))) (evaluate m.spot.ref st))

pub mod_idle : (m : l.ModSpot) (a b : Vm) → Does (λ n st. st) a b → IsStale m.spot.ref a false → Does (λ n. renew_mods (m ∷ [])) a b
mod_idle m a b still w = unless_stale m.spot.ref a b still (mod_put m) (λ n. renew_mods (m ∷ [])) (λ n st. refl) w

pub mod_renewed : (m : l.ModSpot) (vs : List V) (ns : List (Text × V)) (a b c d : Vm) → Does (λ n st. st) a b → IsStale m.spot.ref a true
    → ((n : Tables) (u : Source → Bool) → first_values m.positional (values_in (spot_pairs (state_of n b u) m.spot.ref)) ≡ vs)
    → ((n : Tables) (u : Source → Bool) → named_with m.names (values_from m.positional (values_in (spot_pairs (state_of n b u) m.spot.ref))) ≡ ns)
    → Does (λ n. evaluate m.spot.ref) b c → Does (λ n. put_args m.id vs ns) c d → Does (λ n. renew_mods (m ∷ [])) a d
mod_renewed m vs ns a b c d still w v1 v2 e p =
    let h : Tables → State → State = λ n st. put_args m.id vs ns (evaluate m.spot.ref st) in
    where_stale m.spot.ref a b still d (mod_put m) (λ n. renew_mods (m ∷ [])) (λ n st. refl) w
    (does_as h (mod_put m) b d (does_then (λ n. evaluate m.spot.ref) (λ n. put_args m.id vs ns) b c d e p)
    (λ n u ag.
    let st = state_of n b u in
    let put : Installed → State = λ y. note_updated m.id (put_thing (modifier_id m.id) (modifier_row y) (evaluate m.spot.ref st)) in
    ap put (ap₂ (λ xs ys. given_args xs ys (st.look (modifier_id m.id))) (sym (v1 n u)) (sym (v2 n u)) ∙ refreshed-is m (values_in (spot_pairs st m.spot.ref)) (st.look (modifier_id m.id)))))

-- One after another: where what is left is done, all is done.
module _ {A B : Type 0} (step : List B → State → State) (f : A → B) (none : (st : State) → step [] st ≡ st) (some : (y : B) (ys : List B) (st : State) → step (y ∷ ys) st ≡ step ys (step (y ∷ []) st)) (xs : List A) (vm0 : Vm) where
  abbrev pub Left : ℕ → Vm → Type 0
  Left i vm = (v : Vm) → Does (λ n. step (map f (drop i xs))) vm v → Does (λ n. step (map f xs)) vm0 v

  pub left_next : (i : ℕ) (x : A) (vm mid : Vm) → i < length xs → x ≡ get_or xs i x → Does (λ n. step (f x ∷ [])) vm mid → Left i vm → Left (i + 1) mid
  left_next i x vm mid lt is d w v e =
      let more = map f (drop (i + 1) xs) in
      w v (subst (λ ys. Does (λ n. step (map f ys)) vm v) (sym (drop_item xs i x lt is))
      (does_as (λ n st. step more (step (f x ∷ []) st)) (λ n. step (f x ∷ more)) vm v (does_then (λ n. step (f x ∷ [])) (λ n. step more) vm mid v d e) (λ n u ag. sym (some (f x) more (state_of n vm u)))))

  pub left_end : (i : ℕ) (vm : Vm) → length xs ≤ i → Left i vm → Does (λ n. step (map f xs)) vm0 vm
  left_end i vm le w =
      w vm (subst (λ ys. Does (λ n. step (map f ys)) vm vm) (sym (drop_all i xs le))
      (does_as (λ n st. st) (λ n. step []) vm vm (λ n u ag. record { state = refl; agrees = ag }) (λ n u ag. sym (none (state_of n vm u)))))
