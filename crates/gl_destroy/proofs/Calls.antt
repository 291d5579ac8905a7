-- The arena and the list of trees are the forest after each call.
use Rattle.std.proofs.Common.{◌≡◌, ℕ, zero, suc, ◌+◌, ◌<◌, ◌≤◌, List, [], ◌∷◌, map, filter, Option, Some, None, option_map, refl, sym, ap, subst, ◌∙◌, arith, IsSome, is_some, get_or, ◌==◌, inl, inr, true, false, Bool}
use Rattle.std.specs.Prelude.{if◌then◌else◌}
use Rattle.gl_arena.proofs.Ids.{id_cases}
use Rattle.gl_arena.specs.Id.{Id}
use Rattle.gl_arena.specs.Arena.{Arena, named, stamped, IsStamped, Ends}
use Rattle.gl_destroy.specs.What as w
use Rattle.gl_destroy.specs.What.{is_logged}
use Rattle.gl_destroy.specs.Forest.{Forest, end, leaf, times, put_last, tree_at, without, children_first, destroy_lines, IsParent, IsSound}
use Rattle.gl_destroy.specs.Links.{Look, read, size, forest_in, IsForest, listed_in, ids_with, ended, times_in, tree_in}
use Rattle.gl_destroy.specs.View.{seen_what, seen_pairs, seen_entry, look_in, AddsEntry, IsListed}
use Rattle.gl_destroy.specs.declared.what.What.{What}
use Rattle.gl_destroy.specs.declared.entries.Entry.{Entry}
use Rattle.gl_destroy.proofs.Forests.{times-tree_at, times_in-children_first, times-parts, times-joined, times-with_least, times-with_new, hit-same}
use Rattle.gl_destroy.proofs.Links.{later, none_some, stands_not, stands_live, listed-lives, Linked-tree_at, put_in, hung, taken_away, tree_in-is}
use Rattle.gl_destroy.proofs.Looks.{live_look, put_look, vacant_look, others_look, back_look, times_in-seen}

eqb_zero : (n : ℕ) → (n == 0) ≡ true → n ≡ 0
eqb_zero n e = grind (arith, e)

listed_in-lives : (parent : Option Id) (x : Id) (m : Look) (i : Id) → is_some (listed_in parent x m i) ≡ is_some (m i)
listed_in-lives None x m i = refl
listed_in-lives (Some p) x m i = listed-lives p x m i

times-put_least : (j : Id) (parent : Option Id) (x : Id) (w : w.What) (f : Forest) → times j f ≤ times j (put_last parent x w f)
times-put_least j None x w f = let t = times-joined j f (leaf x w) in omega (arith, t)
times-put_least j (Some p) x w f = times-with_least j p (leaf x w) f

times-put_new : (parent : Option Id) (x : Id) (w : w.What) (f : Forest) → IsParent f parent → 0 < times x (put_last parent x w f)
times-put_new None x w f h = let t = times-joined x f (leaf x w) in let one = hit-same x in omega (arith, t, one)
times-put_new (Some p) x w f h = times-with_new p x w f h

-- the empty forest
read-none : (l : Look) (n : ℕ) → read l n [] ≡ end
read-none l zero = refl
read-none l (suc n) = refl

pub empty_forest : (l : Look) (n : ℕ) → forest_in l n [] ≡ end
empty_forest l n = read-none l n

pub begins : (a : Arena Entry) → a.slots ≡ [] → IsForest (look_in a) a.made [] (forest_in (look_in a) a.made [])
begins a empty = subst (IsForest (look_in a) a.made []) (sym (read-none (look_in a) a.made)) (record {
  heads = refl;
  linked = tt;
  once = λ i. omega arith;
  fits = omega arith;
  given = tt;
  lists = λ i w cs e. absurd (none_some (look_in a i) (w, cs) (ap (λ s. option_map seen_entry (stamped i.1 (get_or s i.0 None))) empty) e);
})

-- one is added
module _ (a b : Arena Entry) (ids : List Id) (f : Forest) (parent : Option Id) (x : Id) (w : w.What) (is : IsForest (look_in a) a.made ids f) (adds : AddsEntry a b x w) where
  pub middle : IsForest (look_in b) (a.made + 1) ids f
  middle = put_in (look_in a) (look_in b) a.made x w adds.gives.stamp (vacant_look a b x w adds) (put_look a b x w adds) (others_look a b x w adds) ids f is

  pub off : times x f ≡ 0
  off = stands_not (look_in a) x f is.linked (vacant_look a b x w adds)

  pub parent_listed : IsParent f parent → IsListed (look_in b) parent
  parent_listed h = by_case parent h
    where
      by_case : (p : Option Id) → IsParent f p → IsListed (look_in b) p
      by_case None h = tt
      by_case (Some p) h = stands_live (look_in b) p f middle.linked h

  pub added : (c : Arena Entry) (ids' : List Id) → look_in c ≡ listed_in parent x (look_in b) → c.made ≡ b.made → ids' ≡ ids_with parent x ids → IsParent f parent → IsForest (look_in c) c.made ids' (put_last parent x w f)
  added c ids' look made trees is_parent =
      let lt : x.1 < a.made + 1 = let s = adds.gives.stamp in omega (arith, s) in
      let fits : size f < a.made + 1 = let h = is.fits in omega (arith, h) in
      let h = hung parent (look_in b) (a.made + 1) ids f x w middle (put_look a b x w adds) off lt fits is_parent in
      let count : c.made ≡ a.made + 1 = made ∙ adds.gives.count in
      subst (λ l. IsForest l c.made ids' (put_last parent x w f)) (sym look)
      (subst (λ n. IsForest (listed_in parent x (look_in b)) n ids' (put_last parent x w f)) (sym count)
      (subst (λ is. IsForest (listed_in parent x (look_in b)) (a.made + 1) is (put_last parent x w f)) (sym trees) h))

  pub added_stands : (c : Arena Entry) → ((i : Id) → IsSome (look_in a i) → 0 < times i f) → look_in c ≡ listed_in parent x (look_in b) → IsParent f parent → (i : Id) → IsSome (look_in c i) → 0 < times i (put_last parent x w f)
  added_stands c stands look is_parent i live =
      let lives : IsSome (look_in b i) = sym (listed_in-lives parent x (look_in b) i) ∙ (ap (λ l. is_some (l i)) (sym look) ∙ live) in
      elim (id_cases i x) [
        | inl e ↦ subst (λ j. 0 < times j (put_last parent x w f)) (sym e) (times-put_new parent x w f is_parent)
        | inr ne ↦
            let was = stands i (subst IsSome (others_look a b x w adds i ne) lives) in
            let least = times-put_least i parent x w f in
            omega (arith, was, least)
      ]

  pub undone_stands : (c d : Arena Entry) → ((i : Id) → IsSome (look_in a i) → 0 < times i f) → look_in c ≡ look_in b → Ends c d x → (i : Id) → IsSome (look_in d i) → 0 < times i f
  undone_stands c d stands look ends i live = stands i (subst (λ l. IsSome (l i)) (back_look a b c d x w adds look ends) live)

  -- and given back
  pub undone : (c d : Arena Entry) (ids' : List Id) → look_in c ≡ look_in b → c.made ≡ b.made → Ends c d x → ids' ≡ ids → IsForest (look_in d) d.made ids' f
  undone c d ids' look made ends trees =
      let count : a.made ≤ d.made = let e = ends.count in let g = adds.gives.count in omega (arith, e, made, g) in
      subst (λ l. IsForest l d.made ids' f) (sym (back_look a b c d x w adds look ends))
      (subst (λ is. IsForest (look_in a) d.made is f) (sym trees) (later (look_in a) a.made d.made ids f count is))

  pub still_live : (c : Arena Entry) → look_in c ≡ look_in b → IsSome (named c x)
  still_live c look = live_look c x (subst (λ l. IsSome (l x)) (sym look) (subst IsSome (sym (put_look a b x w adds)) refl))

-- a tree is taken away
map-seen : (es : List (Id × What)) → map (λ e. seen_what e.1) es ≡ map (λ e. e.1) (seen_pairs es)
map-seen [] = refl
map-seen (e ∷ es) = ap (λ t. seen_what e.1 ∷ t) (map-seen es)

module _ (a : Arena Entry) (ids : List Id) (f : Forest) (x : Id) (order : List (Id × What)) (is : IsForest (look_in a) a.made ids f) (lt : 0 < times x f) (walked : seen_pairs order ≡ children_first (tree_in (look_in a) a.made x)) where
  whole : seen_pairs order ≡ children_first (tree_at x f)
  whole = walked ∙ ap children_first (tree_in-is (look_in a) a.made ids f x is lt)

  same : (j : Id) → times_in j order ≡ times j (tree_at x f)
  same j = sym (times_in-seen j order) ∙ (ap (times_in j) whole ∙ times_in-children_first j (tree_at x f))

  pub all_live : (j : Id) → 0 < times_in j order → IsSome (look_in a j)
  all_live j h = stands_live (look_in a) j (tree_at x f) (Linked-tree_at (look_in a) x f is.linked) (let s = same j in omega (arith, s, h))

  pub all_once : (j : Id) → times_in j order ≤ 1
  all_once j = let s = same j in let t = times-tree_at j x f in let o = is.once j in omega (arith, s, t, o)

  pub lines : filter is_logged (map (λ e. seen_what e.1) order) ≡ destroy_lines (tree_at x f)
  lines = ap (filter is_logged) (map-seen order ∙ ap (map (λ e. e.1)) whole)

  pub removed : (b : Arena Entry) → ((j : Id) → look_in b j ≡ ended (λ k. times_in k order) (look_in a) j) → b.made ≡ a.made → IsForest (look_in b) b.made ids (without x f)
  removed b now made = subst (λ n. IsForest (look_in b) n ids (without x f)) (sym made) (taken_away (look_in a) (look_in b) a.made ids f x (λ k. times_in k order) is same now)

  pub removed_stands : (b : Arena Entry) → ((i : Id) → IsSome (look_in a i) → 0 < times i f) → ((j : Id) → look_in b j ≡ ended (λ k. times_in k order) (look_in a) j) → (i : Id) → IsSome (look_in b i) → 0 < times i (without x f)
  unfolding ended
  removed_stands b stands now i live = by_case (times_in i order == 0) refl (subst IsSome (now i) live)
    where
      by_case : (t : Bool) → (times_in i order == 0) ≡ t → IsSome (if t then look_in a i else None) → 0 < times i (without x f)
      by_case false e h = absurd (let no : false ≡ true = h in cc)
      by_case true e h =
          let zero : times_in i order ≡ 0 = eqb_zero (times_in i order) e in
          let was = stands i h in
          let parts = times-parts i x f in
          let off = same i in
          omega (arith, was, parts, off, zero)

-- the stamps
pub sound : (a : Arena Entry) (ids : List Id) (f : Forest) → IsForest (look_in a) a.made ids f → IsStamped a → IsSound (record { forest = f; made = a.made })
sound a ids f is st =
    let live : (i : Id) → 0 < times i f → IsSome (named a i) = λ i lt. live_look a i (stands_live (look_in a) i f is.linked lt) in
    record {
      once = is.once;
      below = λ i lt. st.below i (live i lt);
      apart = λ i k s t e. st.apart i k (live i s) (live k t) e;
    }
