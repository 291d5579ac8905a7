-- What expressions give, construct by construct.
use Rattle.std.proofs.Common.{◌≡◌, ℕ, zero, suc, ◌+◌, ◌-◌, ◌<◌, ◌≤◌, Bool, true, false, not, List, [], ◌∷◌, ◌++◌, map, drop, length, get_or, Option, Some, None, option_map, unwrap_or, slice_get, refl, sym, ap, ap₂, ◌∙◌, is_some, arith, append_assoc, append-nil}
use Rattle.std.specs.Prelude.{◌&&◌, nat_eq, if◌then◌else◌}
use Rattle.std.specs.Str.{bytes_eq}
use Rattle.std.proofs.lemmas.List.{map-append, drop_all}
use Rattle.gl_base.specs.Texts.{Text}
use Rattle.gl_base.specs.Names.{named, last_named, at_place, or_else}
use Rattle.gl_base.proofs.Lists.{drop_item}
use Rattle.gl_names.specs.Helpers.{helper_rows}
use Rattle.gl_value.specs.Value as v
use Rattle.gl_value.specs.Value.{truthy, plain, properties, action, no_values, undefined}
use Rattle.gl_value.specs.Helpers.{Helper, if_helper, unless_helper, helper_table, helper_numbered, helper_value}
use Rattle.gl_helpers.specs.Table.{numbered_from}
use Rattle.gl_labels.specs.Laws.{names_with}
use Rattle.gl_ast.specs.Template.{Plain, Expr, exprs_of, named_of}
use Rattle.gl_ast.specs.View.{expr_view, seen_exprs, seen_pairs}
use Rattle.gl_ast.specs.declared.expr.Expr.{Expr as CodeExpr}
use Rattle.gl_ast.specs.declared.expr.NamedExpr.{NamedExpr}
use Rattle.gl_meaning.specs.Path.{V, path_eq}
use Rattle.gl_meaning.specs.Scope.{Pair, absent, of_value, NamedPairs}
use Rattle.gl_meaning.specs.Eval.{values_in, Member, field_member, field_or, getter_or_action, member_of, member_pair, branch_pair, branch_of, pair_read, helper_pair, call_pair, bare_pair, eval_in, eval_deep, cell_value}
use Rattle.gl_arena.specs.Id.{Id}
use Rattle.gl_actions.specs.Sets.{Set}
use Rattle.gl_actions.specs.World.{World, app_in, owner_in, value_in, read_in, class_in, store_in, params_in, arguments_in}
use Rattle.gl_actions.specs.Frames.{Fits, IsField, this_in, scope_in, getter_in, pair_in, pairs_in, named_in, member_in, names_read, pair_values}
use Rattle.gl_actions.specs.declared.frame.Frame.{Frame}
use Rattle.gl_actions.specs.declared.frame.Here.{Here}
use Rattle.gl_actions.proofs.Renamed.{plain_in, along_in, joined_in, truthy_in, helper_in}

pub no_some : {A : Type 0} {x : A} → None ≡ Some x → ⊥
no_some e = cc

pub no_none : {A : Type 0} {x : A} → Some x ≡ None → ⊥
no_none e = cc

pub some_same : {A : Type 0} {x y : A} → Some x ≡ Some y → x ≡ y
some_same {x = x} e = ap (λ o. unwrap_or o x) e

pub false_true : {A : Type 0} → false ≡ true → A
false_true e = absurd (let n : false ≡ true = e in cc)

-- Names in lists that are mapped

named_maps : {A B : Type 0} (g : A → B) (n : Text) (es : List (Text × A)) → named n (map (λ e. (e.0, g e.1)) es) ≡ option_map g (named n es)
named_maps g n [] = refl
named_maps g n (e ∷ es) = ap (λ o. if bytes_eq n e.0 then Some (g e.1) else o) (named_maps g n es) ∙ by (bytes_eq n e.0) (named n es) where
  by : (b : Bool) (o : Option _) → (if b then Some (g e.1) else option_map g o) ≡ option_map g (if b then Some e.1 else o)
  by true o = refl
  by false o = refl

pub last_maps : {A B : Type 0} (g : A → B) (n : Text) (es : List (Text × A)) → last_named n (map (λ e. (e.0, g e.1)) es) ≡ option_map g (last_named n es)
last_maps g n [] = refl
last_maps g n (e ∷ es) = ap (λ o. or_else o (if bytes_eq n e.0 then Some (g e.1) else None)) (last_maps g n es) ∙ by (bytes_eq n e.0) (last_named n es) where
  by : (b : Bool) (o : Option _) → or_else (option_map g o) (if b then Some (g e.1) else None) ≡ option_map g (or_else o (if b then Some e.1 else None))
  by true None = refl
  by true (Some x) = refl
  by false None = refl
  by false (Some x) = refl

-- Literals and properties

pub literal_is : (w : World) (x : v.Value ℕ) (l : Plain) → x ≡ plain l → value_in w x ≡ plain l
literal_is w x l e = ap (value_in w) e ∙ plain_in w l

pub along_is : (w : World) (ks : List Text) (x y : v.Value ℕ) (z : V) → x ≡ properties ks y → value_in w y ≡ z → value_in w x ≡ properties ks z
along_is w ks x y z e d = ap (value_in w) e ∙ (sym (along_in w ks y) ∙ ap (properties ks) d)

pub joined_is : (w : World) (x : v.Value ℕ) (vs : List (v.Value ℕ)) (zs : List V) → x ≡ v.join_values vs → map (value_in w) vs ≡ zs → value_in w x ≡ v.join_values zs
joined_is w x vs zs e d = ap (value_in w) e ∙ (sym (joined_in w vs) ∙ ap v.join_values d)

-- Arguments and parameters

values_named : (n : Text) (ns : NamedPairs) (o : Option V) → o ≡ last_named n (pair_values ns) → unwrap_or o undefined ≡ (unwrap_or (last_named n ns) absent).value
values_named n ns o e = ap (λ p. unwrap_or p undefined) (e ∙ last_maps (λ (p : Pair). p.value) n ns) ∙ by (last_named n ns) where
  by : (q : Option Pair) → unwrap_or (option_map (λ (p : Pair). p.value) q) undefined ≡ (unwrap_or q absent).value
  by None = refl
  by (Some p) = refl

-- the value of an argument, by what its references give
pub argument_is : (w : World) (f : Frame) → Fits w f → (n : Text) (o : Option V) → o ≡ last_named n (names_read w f.vm.now (map (λ a. (a.0, a.1.1)) f.args.now))
    → unwrap_or o undefined ≡ (unwrap_or (last_named n (arguments_in w (this_in f))) absent).value
argument_is w f fits n o e = values_named n (arguments_in w (this_in f)) o (e ∙ ap (last_named n) fits.instance.arguments)

-- .. where one is found, and where none is
pub argument_some : (w : World) (f : Frame) → Fits w f → (n : Text) (id : Id) → Some id ≡ last_named n f.args.now → (x : v.Value ℕ) → value_in w x ≡ read_in w f.vm.now id.1
    → value_in w x ≡ (unwrap_or (last_named n (arguments_in w (this_in f))) absent).value
argument_some w f fits n id is x e =
    e
    ∙ argument_is w f fits n (Some (read_in w f.vm.now id.1))
    (sym (last_maps (λ r. read_in w f.vm.now r) n (map (λ a. (a.0, a.1.1)) f.args.now)
    ∙ (ap (option_map (λ r. read_in w f.vm.now r)) (last_maps (λ (i : Id). i.1) n f.args.now) ∙ ap (λ o. option_map (λ r. read_in w f.vm.now r) (option_map (λ (i : Id). i.1) o)) (sym is))))

pub argument_none : (w : World) (f : Frame) → Fits w f → (n : Text) → None ≡ last_named n f.args.now → undefined ≡ (unwrap_or (last_named n (arguments_in w (this_in f))) absent).value
argument_none w f fits n is =
    argument_is w f fits n None
    (sym (last_maps (λ r. read_in w f.vm.now r) n (map (λ a. (a.0, a.1.1)) f.args.now)
    ∙ (ap (option_map (λ r. read_in w f.vm.now r)) (last_maps (λ (i : Id). i.1) n f.args.now) ∙ ap (λ o. option_map (λ r. read_in w f.vm.now r) (option_map (λ (i : Id). i.1) o)) (sym is))))

pub bare_some : (w : World) (n : Text) (ks : List Text) (ps : List (Text × v.Value ℕ)) (x y : v.Value ℕ) → Some y ≡ last_named n ps → x ≡ properties ks y
    → value_in w x ≡ (bare_pair n ks (last_named n (params_in w ps))).value
bare_some w n ks ps x y found e =
    along_is w ks x y (value_in w y) e refl
    ∙ ap (λ o. (bare_pair n ks o).value) (sym (last_maps (λ z. of_value (value_in w z)) n ps ∙ ap (option_map (λ z. of_value (value_in w z))) (sym found)))

pub bare_none : (w : World) (n : Text) (ks : List Text) (ps : List (Text × v.Value ℕ)) (z : V) → None ≡ last_named n ps → z ≡ (call_pair n [] []).value
    → z ≡ (bare_pair n ks (last_named n (params_in w ps))).value
bare_none w n ks ps z none e = e ∙ ap (λ o. (bare_pair n ks o).value) (sym (last_maps (λ z. of_value (value_in w z)) n ps ∙ ap (option_map (λ z. of_value (value_in w z))) (sym none)))

-- Members

module _ (w : World) (h : Here) (n : ℕ) (x : Text) (fits : Fits w h.frame) where
  fields_named : named x (class_in w (this_in h.frame)).fields ≡ option_map plain (named x h.frame.class.now.fields)
  fields_named = ap (named x) fits.fields ∙ named_maps (λ (y : v.Value ℕ). let z : Plain = plain y in z) x h.frame.class.now.fields

  pub field_there : is_some (named x h.frame.class.now.fields) ≡ true → IsField w h.frame x
  field_there e = ap (λ o. field_or o (getter_or_action (named x (class_in w (this_in h.frame)).getters))) fields_named ∙ by (named x h.frame.class.now.fields) e _ where
    by : (o : Option (v.Value ℕ)) → is_some o ≡ true → (m : Member) → field_or (option_map (λ y. let z : Plain = plain y in z) o) m ≡ field_member
    by (Some y) e m = refl
    by None e m = false_true e

  other_there : is_some (named x h.frame.class.now.fields) ≡ false → member_of (class_in w (this_in h.frame)) x ≡ getter_or_action (named x h.frame.class.now.getters)
  other_there e =
      ap (λ o. field_or o (getter_or_action (named x (class_in w (this_in h.frame)).getters))) fields_named
      ∙ (by (named x h.frame.class.now.fields) e _ ∙ ap (λ gs. getter_or_action (named x gs)) fits.getters) where
        by : (o : Option (v.Value ℕ)) → is_some o ≡ false → (m : Member) → field_or (option_map (λ y. let z : Plain = plain y in z) o) m ≡ m
        by (Some y) e m = false_true (sym e)
        by None e m = refl

  abbrev given_by : Member → V
  given_by m = (member_pair (app_in w) (store_in w h.sets.now) (getter_in w h n) (scope_in w h.frame h.params.now) x m).value

  pub member_field : is_some (named x h.frame.class.now.fields) ≡ true → (member_in w h n x).value ≡ cell_value (app_in w) (store_in w h.sets.now) (this_in h.frame) x
  member_field e = ap given_by (field_there e)

  pub member_getter : is_some (named x h.frame.class.now.fields) ≡ false → (e : Expr) → Some e ≡ named x h.frame.class.now.getters → (member_in w h n x).value ≡ (getter_in w h n e).value
  member_getter un e is = ap given_by (other_there un ∙ ap getter_or_action (sym is))

  pub member_action : is_some (named x h.frame.class.now.fields) ≡ false → None ≡ named x h.frame.class.now.getters → value_in w (action h.frame.number x no_values) ≡ (member_in w h n x).value
  member_action un is =
      ap (λ p. let z : V = action p x no_values in z) (ap (owner_in w) fits.number ∙ fits.instance.owner)
      ∙ sym (ap given_by (other_there un ∙ ap getter_or_action (sym is)))

-- a getter, where one less may nest
pub getter_at : (w : World) (f : Frame) (ps : List (Text × v.Value ℕ)) (ss : List Set) (n : ℕ) (e : Expr) → 0 < n → ps ≡ []
    → (eval_in (app_in w) (store_in w ss) (eval_deep (n - 1) (app_in w) (store_in w ss) (scope_in w f [])) (scope_in w f ps) e).value ≡ (eval_deep n (app_in w) (store_in w ss) (scope_in w f []) e).value
getter_at w f ps ss zero e lt p = absurd (omega (arith, lt))
getter_at w f ps ss (suc n) e lt p =
    let one : suc n - 1 ≡ n = omega arith in
    ap (λ k. (eval_in (app_in w) (store_in w ss) (eval_deep k (app_in w) (store_in w ss) (scope_in w f [])) (scope_in w f ps) e).value) one
    ∙ ap (λ qs. (eval_deep (suc n) (app_in w) (store_in w ss) (scope_in w f qs) e).value) p

-- An expression at a place

module _ (w : World) (h : Here) (n : ℕ) where
  pub place_some : (i : ℕ) (es : List Expr) (e : Expr) → Some e ≡ slice_get es i → pair_in w h n e ≡ at_place absent i (pairs_in w h n (exprs_of es))
  place_some i [] e is = absurd (no_none is)
  place_some zero (x ∷ es) e is = ap (pair_in w h n) (some_same is)
  place_some (suc i) (x ∷ es) e is = place_some i es e is

  pub place_none : (i : ℕ) (es : List Expr) → None ≡ slice_get es i → absent ≡ at_place absent i (pairs_in w h n (exprs_of es))
  place_none i [] is = refl
  place_none zero (x ∷ es) is = absurd (no_some is)
  place_none (suc i) (x ∷ es) is = place_none i es is

-- Branches

pub branch_taken : (w : World) (unless b : Bool) (x : v.Value ℕ) (c p q : Pair) → value_in w x ≡ c.value → b ≡ truthy x → (b ≡ unless → ⊥) → p.value ≡ (branch_pair unless c p q).value
branch_taken w unless b x c p q e t other = ap (λ r. (if r then p else q).value) (by unless b other ∙ ap (λ r. if unless then not r else r) (t ∙ (sym (truthy_in w x) ∙ ap truthy e))) where
  by : (u b : Bool) → (b ≡ u → ⊥) → true ≡ (if u then not b else b)
  by true true o = absurd (o refl)
  by true false o = refl
  by false true o = refl
  by false false o = absurd (o refl)

pub branch_other : (w : World) (unless b : Bool) (x : v.Value ℕ) (c p q : Pair) → value_in w x ≡ c.value → b ≡ truthy x → b ≡ unless → q.value ≡ (branch_pair unless c p q).value
branch_other w unless b x c p q e t same = ap (λ r. (if r then p else q).value) (by unless b same ∙ ap (λ r. if unless then not r else r) (t ∙ (sym (truthy_in w x) ∙ ap truthy e))) where
  by : (u b : Bool) → b ≡ u → false ≡ (if u then not b else b)
  by true true o = refl
  by true false o = false_true o
  by false true o = false_true (sym o)
  by false false o = refl

-- Helpers

abbrev tail_of : {A : Type 0} → List A → List A
tail_of [] = []
tail_of (x ∷ xs) = xs

abbrev helpers_of : List (Text × Helper) → List (Option Helper)
helpers_of rows = map (λ row. Some row.1) rows

record Numbered (n : Text) (rows : List (Text × Helper)) (i q : ℕ) : Type 0 where
  helper : Helper
  place : ℕ
  adds : q ≡ i + place
  at : at_place None place (helpers_of rows) ≡ Some helper
  is : named n rows ≡ Some helper

number_of : (n : Text) (rows : List (Text × Helper)) (i q : ℕ) → named n (numbered_from i rows) ≡ Some q → Numbered n rows i q
number_of n [] i q e = absurd (no_some e)
number_of n (r ∷ rs) i q e = by (bytes_eq n r.0) refl (number_of n rs (suc i) q) where
  by : (b : Bool) → bytes_eq n r.0 ≡ b → (named n (numbered_from (suc i) rs) ≡ Some q → Numbered n rs (suc i) q) → Numbered n (r ∷ rs) i q
  by true t more =
      let first : i ≡ q = some_same (ap (λ b. if b then Some i else named n (numbered_from (suc i) rs)) (sym t) ∙ e) in
      record { helper = r.1; place = 0; adds = omega (arith, first); at = refl; is = ap (λ b. if b then Some r.1 else named n rs) t }
  by false t more =
      let rest = more (ap (λ b. if b then Some i else named n (numbered_from (suc i) rs)) (sym t) ∙ e) in
      let adds = rest.adds in
      record { helper = rest.helper; place = suc rest.place; adds = omega (arith, adds); at = rest.at; is = ap (λ b. if b then Some r.1 else named n rs) t ∙ rest.is }

number_none : (n : Text) (rows : List (Text × Helper)) (i : ℕ) → named n (numbered_from i rows) ≡ None → named n rows ≡ None
number_none n [] i e = refl
number_none n (r ∷ rs) i e = by (bytes_eq n r.0) refl (number_none n rs (suc i)) where
  by : (b : Bool) → bytes_eq n r.0 ≡ b → (named n (numbered_from (suc i) rs) ≡ None → named n rs ≡ None) → (if bytes_eq n r.0 then Some r.1 else named n rs) ≡ None
  by true t more = absurd (no_none (ap (λ b. if b then Some i else named n (numbered_from (suc i) rs)) (sym t) ∙ e))
  by false t more = ap (λ b. if b then Some r.1 else named n rs) t ∙ more (ap (λ b. if b then Some i else named n (numbered_from (suc i) rs)) (sym t) ∙ e)

rows_are : helper_rows ≡ numbered_from 0 helper_table
unfolding helper_rows
rows_are = refl

pub helper_none : (n : Text) → None ≡ named n helper_rows → named n helper_table ≡ None
helper_none n e = number_none n helper_table 0 (ap (named n) (sym rows_are) ∙ sym e)

pub helper_some : (n : Text) (q : ℕ) → Some q ≡ named n helper_rows → (h : Helper) × (named n helper_table ≡ Some h) × (helper_numbered q ≡ Some h)
helper_some n q e =
    let r = number_of n helper_table 0 q (ap (named n) (sym rows_are) ∙ sym e) in
    let a = r.adds in
    let d : q ≡ r.place = omega (arith, a) in
    (r.helper, r.is, ap helper_numbered d ∙ r.at)

-- only the first two are branches
abbrev plain_rows : List (Text × Helper) → Bool
plain_rows [] = true
plain_rows (r ∷ rs) = not (is_some (branch_of r.1)) && plain_rows rs

not_branch : (h : Helper) (rest : Bool) → (not (is_some (branch_of h)) && rest) ≡ true → branch_of h ≡ None
not_branch h rest e = by (branch_of h) e where
  by : (o : Option Bool) → (not (is_some o) && rest) ≡ true → o ≡ None
  by None e = refl
  by (Some b) e = false_true e

rest_true : (b c : Bool) → (b && c) ≡ true → c ≡ true
rest_true true c e = e
rest_true false c e = false_true e

no_branch : (rows : List (Text × Helper)) → plain_rows rows ≡ true → (k : ℕ) (h : Helper) → at_place None k (helpers_of rows) ≡ Some h → branch_of h ≡ None
no_branch [] p k h e = absurd (no_some e)
no_branch (r ∷ rs) p zero h e = ap branch_of (sym (some_same e)) ∙ not_branch r.1 (plain_rows rs) p
no_branch (r ∷ rs) p (suc k) h e = no_branch rs (rest_true (not (is_some (branch_of r.1))) (plain_rows rs) p) k h e

pub helper_plain : (q : ℕ) (h : Helper) → (q ≡ 0 → ⊥) → (q ≡ 1 → ⊥) → helper_numbered q ≡ Some h → branch_of h ≡ None
helper_plain zero h a b e = absurd (a refl)
helper_plain (suc zero) h a b e = absurd (b refl)
helper_plain (suc (suc k)) h a b e = no_branch (tail_of (tail_of helper_table)) refl k h e

module _ (n : Text) (ps : List Pair) (ns : NamedPairs) where
  pub call_none : None ≡ named n helper_rows → undefined ≡ (call_pair n ps ns).value
  call_none e = sym (ap (λ o. (helper_pair o ps ns).value) (helper_none n e))

  pub call_branch : (q : ℕ) (unless : Bool) → Some q ≡ named n helper_rows → ((h : Helper) → helper_numbered q ≡ Some h → branch_of h ≡ Some unless)
      → (branch_pair unless (at_place absent 0 ps) (at_place absent 1 ps) (at_place absent 2 ps)).value ≡ (call_pair n ps ns).value
  call_branch q unless e is =
      let r = helper_some n q e in
      sym (ap (λ o. (helper_pair o ps ns).value) r.1 ∙ ap (λ o. (pair_read o r.0 ps ns).value) (is r.0 r.2))

  pub call_all : (q : ℕ) (z : V) → Some q ≡ named n helper_rows → (q ≡ 0 → ⊥) → (q ≡ 1 → ⊥)
      → ((h : Helper) → helper_numbered q ≡ Some h → z ≡ helper_value path_eq (values_in ps) (pair_values ns) h) → z ≡ (call_pair n ps ns).value
  call_all q z e a b is =
      let r = helper_some n q e in
      is r.0 r.2 ∙ sym (ap (λ o. (helper_pair o ps ns).value) r.1 ∙ ap (λ o. (pair_read o r.0 ps ns).value) (helper_plain q r.0 a b r.2))

pub is_if : (h : Helper) → helper_numbered 0 ≡ Some h → branch_of h ≡ Some false
is_if h e = ap branch_of (sym (some_same e))

pub is_unless : (h : Helper) → helper_numbered 1 ≡ Some h → branch_of h ≡ Some true
is_unless h e = ap branch_of (sym (some_same e))

pub called_is : (w : World) (q : ℕ) (x : v.Value ℕ) (vs : List (v.Value ℕ)) (ns : List (Text × v.Value ℕ)) (zs : List V) (ms : List (Text × V))
    → option_map (helper_value nat_eq vs ns) (helper_numbered q) ≡ Some x → map (value_in w) vs ≡ zs → names_with (owner_in w) ns ≡ ms
    → (h : Helper) → helper_numbered q ≡ Some h → value_in w x ≡ helper_value path_eq zs ms h
called_is w q x vs ns zs ms e a b h is =
    ap (value_in w) (sym (some_same (ap (option_map (helper_value nat_eq vs ns)) (sym is) ∙ e)))
    ∙ (sym (helper_in w h vs ns) ∙ ap₂ (λ ys ks. helper_value path_eq ys ks h) a b)

-- Lists

module _ (w : World) (h : Here) (n : ℕ) where
  pub values_go : (list : List (v.Value ℕ)) (es : List CodeExpr) (i : ℕ) (e : CodeExpr) (x : v.Value ℕ) (all : List V) → i < length es → e ≡ get_or es i e
      → value_in w x ≡ (pair_in w h n (expr_view e)).value
      → map (value_in w) list ++ values_in (pairs_in w h n (exprs_of (seen_exprs (drop i es)))) ≡ all
      → map (value_in w) (list ++ x ∷ []) ++ values_in (pairs_in w h n (exprs_of (seen_exprs (drop (i + 1) es)))) ≡ all
  values_go list es i e x all lt is gives so =
      ap (λ ys. ys ++ values_in (pairs_in w h n (exprs_of (seen_exprs (drop (i + 1) es))))) (map-append (value_in w) list (x ∷ []))
      ∙ (append_assoc (map (value_in w) list) (value_in w x ∷ []) _
      ∙ (ap (λ y. map (value_in w) list ++ y ∷ values_in (pairs_in w h n (exprs_of (seen_exprs (drop (i + 1) es))))) gives
      ∙ (ap (λ ys. map (value_in w) list ++ values_in (pairs_in w h n (exprs_of (seen_exprs ys)))) (sym (drop_item es i e lt is)) ∙ so)))

  pub values_end : (list : List V) (es : List CodeExpr) (i : ℕ) (all : List V) → length es ≤ i
      → list ++ values_in (pairs_in w h n (exprs_of (seen_exprs (drop i es)))) ≡ all → list ≡ all
  values_end list es i all le so = sym (append-nil list) ∙ (ap (λ ys. list ++ values_in (pairs_in w h n (exprs_of (seen_exprs ys)))) (sym (drop_all i es le)) ∙ so)

  pub named_go : (list : List (Text × v.Value ℕ)) (es : List NamedExpr) (i : ℕ) (e : NamedExpr) (k : Text) (x : v.Value ℕ) (all : List (Text × V)) → i < length es → e ≡ get_or es i e → k ≡ e.name
      → value_in w x ≡ (pair_in w h n (expr_view e.value)).value
      → names_with (owner_in w) list ++ pair_values (named_in w h n (named_of (seen_pairs (drop i es)))) ≡ all
      → names_with (owner_in w) (list ++ (k, x) ∷ []) ++ pair_values (named_in w h n (named_of (seen_pairs (drop (i + 1) es)))) ≡ all
  named_go list es i e k x all lt is name gives so =
      ap (λ ys. ys ++ pair_values (named_in w h n (named_of (seen_pairs (drop (i + 1) es))))) (map-append (λ p. (p.0, value_in w p.1)) list ((k, x) ∷ []))
      ∙ (append_assoc (names_with (owner_in w) list) ((k, value_in w x) ∷ []) _
      ∙ (ap₂ (λ m y. names_with (owner_in w) list ++ (m, y) ∷ pair_values (named_in w h n (named_of (seen_pairs (drop (i + 1) es))))) name gives
      ∙ (ap (λ ys. names_with (owner_in w) list ++ pair_values (named_in w h n (named_of (seen_pairs ys)))) (sym (drop_item es i e lt is)) ∙ so)))

  pub named_end : (list : List (Text × V)) (es : List NamedExpr) (i : ℕ) (all : List (Text × V)) → length es ≤ i
      → list ++ pair_values (named_in w h n (named_of (seen_pairs (drop i es)))) ≡ all → list ≡ all
  named_end list es i all le so = sym (append-nil list) ∙ (ap (λ ys. list ++ pair_values (named_in w h n (named_of (seen_pairs ys)))) (sym (drop_all i es le)) ∙ so)

-- a value that is lent is there just where the name is
pub found_there : {A : Type 0} (g : A → v.Value ℕ) (o : Option A) (n : Text) (es : List (Text × v.Value ℕ)) → option_map g o ≡ named n es → is_some o ≡ is_some (named n es)
found_there g (Some x) n es e = ap is_some e
found_there g None n es e = ap is_some e

-- a helper by its name, without arguments
pub alone_is : (n : Text) (q : ℕ) (z : V) → Some q ≡ named n helper_rows → ((h : Helper) → helper_numbered q ≡ Some h → z ≡ helper_value path_eq [] [] h) → z ≡ (call_pair n [] []).value
alone_is n q z e is =
    let r = helper_some n q e in
    is r.0 r.2 ∙ sym (ap (λ o. (helper_pair o [] []).value) r.1 ∙ none_given r.0) where
      none_given : (h : Helper) → (pair_read (branch_of h) h [] []).value ≡ helper_value path_eq [] [] h
      none_given h = by (branch_of h) refl where
        by : (o : Option Bool) → branch_of h ≡ o → (pair_read (branch_of h) h [] []).value ≡ helper_value path_eq [] [] h
        by None e = ap (λ p. (pair_read p h [] []).value) e
        by (Some b) e = which h b e where
          which : (h : Helper) (b : Bool) → branch_of h ≡ Some b → (pair_read (branch_of h) h [] []).value ≡ helper_value path_eq [] [] h
          which if_helper b e = refl
          which unless_helper b e = refl
          which h b e = absurd cc
