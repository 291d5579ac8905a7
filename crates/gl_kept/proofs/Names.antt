-- What a tree names is there, and reads only what the tree names.
use Rattle.std.proofs.Common.{◌≡◌, ℕ, zero, suc, ◌+◌, ◌<◌, ◌≤◌, List, [], ◌∷◌, Option, Some, None, refl, sym, ◌∙◌, subst, arith, inl, inr, ◌⊎◌}
use Rattle.std.specs.Prelude.{map}
use Rattle.gl_meaning.specs.App.{App}
use Rattle.gl_plain.specs.Ids.{a_ref, Id, ref, node, modifier_id, hit, occurs}
use Rattle.gl_plain.specs.State.{Row, row, Thing, State}
use Rattle.gl_plain.specs.Live.{AttrSpot, ModSpot, item_made, Live, still, put_live, element_live, branch_live, listed, unlisted, let_live, component_live, yield_live, deep_live, Items, no_items, item_live, Lives, no_lives, live_and, times, times_in, times_items, times_attrs, times_mods, times_comment}
use Rattle.gl_plain.specs.Reads.{reads, IdsBelow, ReadsLower}
use Rattle.gl_plain.proofs.Moves.{hit_means}
use Rattle.gl_kept.specs.Around.{AllIn, IsThing, with_made, AllThere, CommentThere, AttrsThere, ModsThere, There, ThereIn, ThereItems}
use Rattle.gl_kept.specs.Kept.{Kept, IsRow, LiveBelow}
use Rattle.gl_kept.specs.Laws.{NamesAreThere, ReadsAreLive}
use Rattle.gl_kept.proofs.Stays.{Wider, thing_more}

pub either : (a b : ℕ) → 0 < a + b → (0 < a) ⊎ (0 < b)
either zero b w = inr (omega (arith, w))
either (suc a) b w = inl (omega arith)

module _ (app : App) (look : Id → Option Thing) where
  pub named_alone : (c : Id → ℕ) (q r : Id) → 0 < hit q r → IsThing (λ j. 0) r.kind (look r) → IsThing c q.kind (look q)
  named_alone c q r w h = thing_more (λ j. 0) c (λ j. omega arith) q.kind (look q) (subst (λ j. IsThing (λ i. 0) j.kind (look j)) (sym (hit_means q r w)) h)

  pub all_named : (around : Id → ℕ) (made : List Id) (c : Id → ℕ) → Wider (with_made made around) c → AllThere look around made → (q : Id) → 0 < occurs q made → IsThing c q.kind (look q)
  all_named around made c f h q w = thing_more (with_made made around) c f q.kind (look q) (h q w)

  pub comment_named : (o : Option ℕ) (c : Id → ℕ) → CommentThere app look o → (q : Id) → 0 < times_comment q o → IsThing c q.kind (look q)
  comment_named None c h q w = absurd (omega (arith, w))
  comment_named (Some n) c h q w = named_alone c q (node n) w h

  pub attrs_named : (around : Id → ℕ) (xs : List AttrSpot) (c : Id → ℕ) → Wider (λ q. times_attrs q xs + around q) c → AttrsThere app look around xs → (q : Id) → 0 < times_attrs q xs → IsThing c q.kind (look q)
  attrs_named around [] c f h q w = absurd (omega (arith, w))
  attrs_named around (a ∷ xs) c f h q w = by (either (occurs q a.spot.made) (times_attrs q xs) w) (attrs_named around xs c (λ r. let k = f r in omega (arith, k)) h.1 q) where
    by : ((0 < occurs q a.spot.made) ⊎ (0 < times_attrs q xs)) → (0 < times_attrs q xs → IsThing c q.kind (look q)) → IsThing c q.kind (look q)
    by (inl u) g = all_named around a.spot.made c (λ r. let k = f r in omega (arith, k)) h.0.1 q u
    by (inr u) g = g u

  pub mods_named : (around : Id → ℕ) (zs : List ModSpot) (c : Id → ℕ) → Wider (λ q. times_mods q zs + around q) c → ModsThere app look around zs → (q : Id) → 0 < times_mods q zs → IsThing c q.kind (look q)
  mods_named around [] c f h q w = absurd (omega (arith, w))
  mods_named around (z ∷ zs) c f h q w =
      by (either (hit q (modifier_id z.id) + occurs q z.spot.made) (times_mods q zs) w) (mods_named around zs c (λ r. let k = f r in omega (arith, k)) h.2 q) where
        by2 : ((0 < hit q (modifier_id z.id)) ⊎ (0 < occurs q z.spot.made)) → IsThing c q.kind (look q)
        by2 (inl u) = named_alone c q (modifier_id z.id) u h.0
        by2 (inr u) = all_named around z.spot.made c (λ r. let k = f r in omega (arith, k)) h.1.1 q u

        by : ((0 < hit q (modifier_id z.id) + occurs q z.spot.made) ⊎ (0 < times_mods q zs)) → (0 < times_mods q zs → IsThing c q.kind (look q)) → IsThing c q.kind (look q)
        by (inl u) g = by2 (either (hit q (modifier_id z.id)) (occurs q z.spot.made) u)
        by (inr u) g = g u

  -- two or three parts
  pub two : (T : Type 0) (a b : ℕ) → 0 < a + b → (0 < a → T) → (0 < b → T) → T
  two T a b w f g = elim (either a b w) [ inl u ↦ f u | inr u ↦ g u ]

  mutual
    pub named : (around : Id → ℕ) (l : Live) (c : Id → ℕ) → Wider (λ q. times q l + around q) c → There app look around l → (q : Id) → 0 < times q l → IsThing c q.kind (look q)
    named around (still n) c f h q w = named_alone c q (node n) w h
    named around (put_live n z) c f h q w =
        two (IsThing c q.kind (look q)) (hit q (node n)) (occurs q z.made) w (λ u. named_alone c q (node n) u h.0) (λ u. all_named around z.made c (λ r. let k = f r in omega (arith, k)) h.1.1 q u)
    named around (element_live n made xs zs ls) c f h q w =
        let T = IsThing c q.kind (look q) in
        two T (hit q (node n) + (occurs q made + times_attrs q xs)) (times_in q ls + times_mods q zs) w
        (λ u. two T (hit q (node n)) (occurs q made + times_attrs q xs) u (λ v. named_alone c q (node n) v h.0)
        (λ v. two T (occurs q made) (times_attrs q xs) v (λ x. all_named around made c (λ r. let k = f r in omega (arith, k)) h.1 q x) (λ x. attrs_named (with_made made around) xs c (λ r. let k = f r in omega (arith, k)) h.2 q x)))
        (λ u. two T (times_in q ls) (times_mods q zs) u (λ v. named_in around ls c (λ r. let k = f r in omega (arith, k)) h.4 q v) (λ v. mods_named (with_made made around) zs c (λ r. let k = f r in omega (arith, k)) h.3 q v))
    named around (branch_live z b k ls) c f h q w =
        let T = IsThing c q.kind (look q) in
        two T (occurs q z.made) (times_in q ls + times_comment q k) w (λ u. all_named around z.made c (λ r. let k = f r in omega (arith, k)) h.0.1 q u)
        (λ u. two T (times_in q ls) (times_comment q k) u (λ v. named_in around ls c (λ r. let k = f r in omega (arith, k)) h.2 q v) (λ v. comment_named k c h.1 q v))
    named around (listed z is) c f h q w =
        two (IsThing c q.kind (look q)) (occurs q z.made) (times_items q is) w (λ u. all_named around z.made c (λ r. let k = f r in omega (arith, k)) h.0.1 q u) (λ u. named_items around is c (λ r. let k = f r in omega (arith, k)) h.1 q u)
    named around (unlisted z k ls) c f h q w =
        let T = IsThing c q.kind (look q) in
        two T (occurs q z.made) (times_in q ls + times_comment q k) w (λ u. all_named around z.made c (λ r. let k = f r in omega (arith, k)) h.0.1 q u)
        (λ u. two T (times_in q ls) (times_comment q k) u (λ v. named_in around ls c (λ r. let k = f r in omega (arith, k)) h.2 q v) (λ v. comment_named k c h.1 q v))
    named around (let_live made rs ls) c f h q w =
        two (IsThing c q.kind (look q)) (occurs q made) (times_in q ls) w (λ u. all_named around made c (λ r. let k = f r in omega (arith, k)) h.0 q u) (λ u. named_in (with_made made around) ls c (λ r. let k = f r in omega (arith, k)) h.2 q u)
    named around (component_live i made gm args b ls) c f h q w =
        two (IsThing c q.kind (look q)) (occurs q made) (times_in q ls) w (λ u. all_named around made c (λ r. let k = f r in omega (arith, k)) h.0 q u) (λ u. named_in (with_made made around) ls c (λ r. let k = f r in omega (arith, k)) h.3 q u)
    named around (yield_live n made rs ls) c f h q w =
        two (IsThing c q.kind (look q)) (occurs q made) (times_in q ls) w (λ u. all_named around made c (λ r. let k = f r in omega (arith, k)) h.0 q u) (λ u. named_in (with_made made around) ls c (λ r. let k = f r in omega (arith, k)) h.2 q u)
    named around (deep_live p) c f h q w = absurd (omega (arith, w))

    pub named_items : (around : Id → ℕ) (is : Items) (c : Id → ℕ) → Wider (λ q. times_items q is + around q) c → ThereItems app look around is → (q : Id) → 0 < times_items q is → IsThing c q.kind (look q)
    named_items around no_items c f h q w = absurd (omega (arith, w))
    named_items around (item_live z k ls is) c f h q w =
        let T = IsThing c q.kind (look q) in
        two T (occurs q (item_made z) + (times_in q ls + times_comment q k)) (times_items q is) w
        (λ u. two T (occurs q (item_made z)) (times_in q ls + times_comment q k) u (λ v. all_named around (item_made z) c (λ r. let k = f r in omega (arith, k)) h.0.0 q v)
        (λ v. two T (times_in q ls) (times_comment q k) v (λ x. named_in (with_made (item_made z) around) ls c (λ r. let k = f r in omega (arith, k)) h.0.3 q x) (λ x. comment_named k c h.0.2 q x)))
        (λ u. named_items around is c (λ r. let k = f r in omega (arith, k)) h.1 q u)

    pub named_in : (around : Id → ℕ) (ls : Lives) (c : Id → ℕ) → Wider (λ q. times_in q ls + around q) c → ThereIn app look around ls → (q : Id) → 0 < times_in q ls → IsThing c q.kind (look q)
    named_in around no_lives c f h q w = absurd (omega (arith, w))
    named_in around (live_and l ls) c f h q w =
        two (IsThing c q.kind (look q)) (times q l) (times_in q ls) w (λ u. named around l c (λ r. let k = f r in omega (arith, k)) h.0 q u) (λ u. named_in around ls c (λ r. let k = f r in omega (arith, k)) h.1 q u)

pub names_are_there : NamesAreThere
names_are_there app st l k q = ((λ w. named app st.look (λ r. 0) l (λ r. times r l) (λ r. omega arith) k.there q w), k.nothing q)

-- Reading

is_row : (c : Id → ℕ) (o : Option Thing) → IsThing c a_ref o → IsRow o
is_row c (Some (row x)) h = tt
is_row c _ h = absurd h

-- the row of a reference that is there is counted
pub row_counted : (app : App) (st : State) (l : Live) → Kept app st l → (n : ℕ) (x : Row) → st.look (ref n) ≡ Some (row x) → AllIn (λ r. times r l) (reads x.form)
row_counted app st l k n x e = by (times (ref n) l) refl where
  by : (m : ℕ) → times (ref n) l ≡ m → AllIn (λ r. times r l) (reads x.form)
  by zero z = let g : None ≡ Some (row x) = sym (k.nothing (ref n) z) ∙ e in absurd cc
  by (suc m) z = subst (IsThing (λ r. times r l) a_ref) e ((names_are_there app st l k (ref n)).0 (omega (arith, z)))

live_below : (app : App) (st : State) (l : Live) → Kept app st l → (n : ℕ) (rs : List ℕ) → AllIn (λ r. times r l) rs → IdsBelow n rs → LiveBelow st.look n rs
live_below app st l k n [] h b = tt
live_below app st l k n (r ∷ rs) h b = (b.0, is_row (λ j. times j l) (st.look (ref r)) ((names_are_there app st l k (ref r)).0 h.0), live_below app st l k n rs h.1 b.1)

pub reads_are_live : ReadsAreLive
reads_are_live app st l k lower n x e = live_below app st l k n (reads x.form) (row_counted app st l k n x e) (subst (ReadsLower n) e (lower n))

pub uncounted : (c : Id → ℕ) (q : ℕ) → c (ref q) ≡ 0 → (rs : List ℕ) → AllIn c rs → occurs (ref q) (map ref rs) ≡ 0
uncounted c q z [] h = refl
uncounted c q z (r ∷ rs) h = by (hit (ref q) (ref r)) refl (uncounted c q z rs h.1) where
  by : (n : ℕ) → hit (ref q) (ref r) ≡ n → occurs (ref q) (map ref rs) ≡ 0 → hit (ref q) (ref r) + occurs (ref q) (map ref rs) ≡ 0
  by zero e g = omega (arith, e, g)
  by (suc n) e g =
      let same : ref q ≡ ref r = hit_means (ref q) (ref r) (omega (arith, e)) in
      let w = h.0 in let k : c (ref q) ≡ c (ref r) = Rattle.std.proofs.Common.ap c same in absurd (omega (arith, w, z, k))
