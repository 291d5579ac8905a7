-- What a reference means stays as it is where nothing that it read is touched.
use Rattle.std.proofs.Common.{◌≡◌, ℕ, zero, suc, ◌<◌, ◌≤◌, List, [], ◌∷◌, ◌++◌, map, Bool, true, false, Option, Some, None, sym, ◌∙◌, ap, ap₂, subst, arith, inl, inr, ◌⊎◌}
use Rattle.std.specs.Prelude.{if◌then◌else◌}
use Rattle.std.proofs.lemmas.Bool.{cases_lt}
use Rattle.gl_base.specs.Names.{named, at_place}
use Rattle.gl_value.specs.Value.{undefined}
use Rattle.gl_value.specs.Helpers
use Rattle.gl_meaning.specs.Scope.{Source, Pair, absent, sources_of, NamedPairs}
use Rattle.gl_meaning.specs.Eval
use Rattle.gl_meaning.specs.Eval.{with_properties, cat_pair}
use Rattle.gl_meaning.specs.Laws.{Untouched, Keeps, KeepsAll, keeps_none, keeps_more}
use Rattle.gl_meaning.proofs.Frame.{KeepsNames, names_none, names_more, keeps_itself, keeps_list, keeps_names, untouched_append}
use Rattle.gl_plain.specs.Ids.{a_ref, Id, ref}
use Rattle.gl_plain.specs.State.{Form, constant_form, source_form, property_form, call_form, joined_form, all_form, Names, names_by, refs_of, row, Thing, form_pair, thing_pair, pair_of}
use Rattle.gl_plain.specs.Reads.{reads}
use Rattle.gl_plain.specs.Renew.{form_ids, spot_ids}
use Rattle.gl_plain.specs.Stands.{below}
use Rattle.gl_plain.proofs.Pairs.{below_at, below_not, pair_law}
use Rattle.gl_kept.specs.Around.{AllIn, IsThing}

module _ (U : Source → Type 0) where
  keeps_at : {vs ws : List Pair} → KeepsAll U vs ws → (i : ℕ) → Keeps U (at_place absent i vs) (at_place absent i ws)
  keeps_at keeps_none i = keeps_itself U absent
  keeps_at (keeps_more k ks) zero = k
  keeps_at (keeps_more k ks) (suc i) = keeps_at ks i

  keeps_branch : (unless : Bool) (c d v w v' w' : Pair) → Keeps U c d → Keeps U v v' → Keeps U w w' → Keeps U (Eval.branch_pair unless c v w) (Eval.branch_pair unless d v' w')
  keeps_branch unless c d v w v' w' k m n u =
      let r = untouched_append U c.sources _ u in
      chosen (Eval.takes_first unless c.value) r.1 ∙ ap (λ x. Eval.branch_pair unless x v' w') (k r.0)
    where
      chosen : (b : Bool) → Untouched U (if b then v else w).sources → Eval.after_reading c (if b then v else w) ≡ Eval.after_reading c (if b then v' else w')
      chosen true q = ap (Eval.after_reading c) (m q)
      chosen false q = ap (Eval.after_reading c) (n q)

  keeps_every : (f : Helpers.Helper) {vs ws : List Pair} {ns ms : NamedPairs} → KeepsAll U vs ws → KeepsNames U ns ms → Keeps U (Eval.all_pair f vs ns) (Eval.all_pair f ws ms)
  keeps_every f {vs} {ws} {ns} {ms} k m u = let r = untouched_append U (sources_of vs) _ u in ap₂ (Eval.all_pair f) (keeps_list U k r.0) (keeps_names U m r.1)

  keeps_read : (b : Option Bool) (f : Helpers.Helper) {vs ws : List Pair} {ns ms : NamedPairs} → KeepsAll U vs ws → KeepsNames U ns ms → Keeps U (Eval.pair_read b f vs ns) (Eval.pair_read b f ws ms)
  keeps_read None f k m = keeps_every f k m
  keeps_read (Some unless) f k m = keeps_branch unless _ _ _ _ _ _ (keeps_at k 0) (keeps_at k 1) (keeps_at k 2)

  keeps_helper : (f : Option Helpers.Helper) {vs ws : List Pair} {ns ms : NamedPairs} → KeepsAll U vs ws → KeepsNames U ns ms → Keeps U (Eval.helper_pair f vs ns) (Eval.helper_pair f ws ms)
  keeps_helper None k m = keeps_itself U absent
  keeps_helper (Some f) k m = keeps_read (Eval.branch_of f) f k m

  module _ (f g : ℕ → Pair) (c : Id → ℕ) (k : (r : ℕ) → 0 < c (ref r) → Keeps U (f r) (g r)) where
    all_left : (rs ss : List ℕ) → AllIn c (rs ++ ss) → AllIn c rs
    all_left [] ss h = tt
    all_left (r ∷ rs) ss h = (h.0, all_left rs ss h.1)

    all_right : (rs ss : List ℕ) → AllIn c (rs ++ ss) → AllIn c ss
    all_right [] ss h = h
    all_right (r ∷ rs) ss h = all_right rs ss h.1

    pub list_keeps : (rs : List ℕ) → AllIn c rs → KeepsAll U (map f rs) (map g rs)
    list_keeps [] h = keeps_none
    list_keeps (r ∷ rs) h = keeps_more (k r h.0) (list_keeps rs h.1)

    names_keep : (ns : Names) → AllIn c (refs_of ns) → KeepsNames U (names_by f ns) (names_by g ns)
    names_keep [] h = names_none
    names_keep (n ∷ ns) h = names_more (k n.1 h.0) (names_keep ns h.1)

    form_keeps : (x : Form) → AllIn c (reads x) → Keeps U (form_pair f x) (form_pair g x)
    form_keeps (constant_form v) h = keeps_itself U _
    form_keeps (source_form x v) h = keeps_itself U _
    form_keeps (property_form r n) h = λ u. ap (with_properties (n ∷ [])) (k r h.0 u)
    form_keeps (call_form n rs ns) h = keeps_helper (named n Helpers.helper_table) (list_keeps rs (all_left rs (refs_of ns) h)) (names_keep ns (all_right rs (refs_of ns) h))
    form_keeps (joined_form rs) h = λ u. ap cat_pair (keeps_list U (list_keeps rs h) u)
    form_keeps (all_form rs) h = λ u. ap (λ vs. record { value = undefined; sources = sources_of vs }) (keeps_list U (list_keeps rs h) u)

    pub thing_keeps : (t : Option Thing) → IsThing c a_ref t → Keeps U (thing_pair f t) (thing_pair g t)
    thing_keeps (Some (row x)) h = form_keeps x.form h
    thing_keeps _ h = absurd h

  below_keeps : (f g : ℕ → Pair) (n q : ℕ) → (q < n → Keeps U (f q) (g q)) → Keeps U (below n f q) (below n g q)
  below_keeps f g n q k = by (cases_lt q n) where
    by : ((q < n) ⊎ (n ≤ q)) → Keeps U (below n f q) (below n g q)
    by (inl lt) = subst (λ v. Keeps U v (below n g q)) (sym (below_at n f q lt)) (subst (Keeps U (f q)) (sym (below_at n g q lt)) (k lt))
    by (inr le) = subst (λ v. Keeps U v (below n g q)) (sym (below_not n f q le)) (subst (Keeps U absent) (sym (below_not n g q le)) (keeps_itself U absent))

  -- Where the rows that are counted are the same, and read what is counted, or mean the same in another way.
  module _ (look look' : Id → Option Thing) (c : Id → ℕ) (same : (r : ℕ) → 0 < c (ref r) → ((look' (ref r) ≡ look (ref r)) × IsThing c a_ref (look (ref r))) ⊎ Keeps U (pair_of look r) (pair_of look' r)) where
    keep_to : (n r : ℕ) → r < n → 0 < c (ref r) → Keeps U (pair_of look r) (pair_of look' r)
    keep_to zero r lt w = absurd (omega (arith, lt))
    keep_to (suc n) r lt w = by (same r w) (λ q l v. keep_to n q (omega (arith, l, lt)) v) where
      by : ((look' (ref r) ≡ look (ref r)) × IsThing c a_ref (look (ref r))) ⊎ Keeps U (pair_of look r) (pair_of look' r) → ((q : ℕ) → q < r → 0 < c (ref q) → Keeps U (pair_of look q) (pair_of look' q))
          → Keeps U (pair_of look r) (pair_of look' r)
      by (inr k) rec = k
      by (inl e) rec =
          let F = below r (pair_of look) in
          let G = below r (pair_of look') in
          let k = thing_keeps F G c (λ q v. below_keeps (pair_of look) (pair_of look') r q (λ l. rec q l v)) (look (ref r)) e.1 in
          subst (λ v. Keeps U v (pair_of look' r)) (sym (pair_law look r)) (subst (Keeps U (thing_pair F (look (ref r)))) (sym (pair_law look' r ∙ ap (thing_pair G) e.0)) k)

    pub pairs_keep : (r : ℕ) → 0 < c (ref r) → Keeps U (pair_of look r) (pair_of look' r)
    pairs_keep r w = keep_to (suc r) r (omega arith) w

-- the references that a position reads
pub ids_in : (c : Id → ℕ) (t : Option Thing) → IsThing c a_ref t → AllIn c (spot_ids t)
ids_in c (Some (row x)) h = by x.form h where
  by : (f : Form) → AllIn c (reads f) → AllIn c (form_ids f)
  by (all_form rs) h = h
  by _ h = tt
ids_in c _ h = absurd h
