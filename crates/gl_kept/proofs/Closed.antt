-- Nobody reads into what may go by itself.
use Rattle.std.proofs.Common.{◌≡◌, ℕ, zero, suc, ◌+◌, ◌<◌, ◌≤◌, List, [], ◌∷◌, Option, Some, None, refl, sym, ◌∙◌, subst, arith, inl, inr, ◌⊎◌}
use Rattle.gl_meaning.specs.App.{App}
use Rattle.gl_plain.specs.Ids.{a_ref, Id, ref, node, hit, occurs}
use Rattle.gl_plain.specs.State.{row, Thing, State}
use Rattle.gl_plain.specs.Live.{item_made, Live, still, put_live, element_live, branch_live, listed, unlisted, let_live, component_live, yield_live, deep_live, Items, no_items, item_live, Lives, no_lives, live_and, times, times_in, times_items, times_attrs, times_mods, times_comment}
use Rattle.gl_plain.specs.Reads.{reads}
use Rattle.gl_plain.specs.Keeps.{item_count}
use Rattle.gl_kept.specs.Around.{AllIn, IsThing, with_made, CommentThere, There, ThereIn, ThereItems}
use Rattle.gl_kept.specs.Kept.{Kept}
use Rattle.gl_kept.specs.Closed.{NoneIn, Closed, PartsClosed, PartsClosedIn, PartsClosedItems}
use Rattle.gl_kept.specs.Laws.{NobodyReadsInto}
use Rattle.gl_kept.proofs.Names.{either, named_alone, all_named, comment_named, attrs_named, mods_named, two, named, named_items, named_in}

-- what is counted in one is not counted in the other
abbrev Disjoint : (Id → ℕ) → (Id → ℕ) → Type 0
Disjoint c d = (q : Id) → 0 < c q → d q ≡ 0

none_of : (c d : Id → ℕ) → Disjoint c d → (rs : List ℕ) → AllIn c rs → NoneIn d rs
none_of c d f [] h = tt
none_of c d f (r ∷ rs) h = (f (ref r) h.0, none_of c d f rs h.1)

none_less : (c d : Id → ℕ) → ((q : Id) → c q ≡ 0 → d q ≡ 0) → (rs : List ℕ) → NoneIn c rs → NoneIn d rs
none_less c d f [] h = tt
none_less c d f (r ∷ rs) h = (f (ref r) h.0, none_less c d f rs h.1)

module _ (app : App) (look : Id → Option Thing) where
  -- things that read these alone
  abbrev Read : (Id → ℕ) → (Id → ℕ) → Type 0
  Read count inside = (q : Id) → 0 < count q → IsThing inside q.kind (look q)

  -- a part of a closed part, where what is beside it reads none of it
  part_closed : (all rest part inside : Id → ℕ) → ((q : Id) → all q ≡ rest q + part q) → Closed look all → Read rest inside → Disjoint inside part → Closed look part
  part_closed all rest part inside e closed h apart n x at z = by (all (ref n)) refl where
    by : (m : ℕ) → all (ref n) ≡ m → NoneIn part (reads x.form)
    by zero i = none_less all part (λ q k. let s = e q in omega (arith, s, k)) (reads x.form) (closed n x at i)
    by (suc m) i = none_of inside part apart (reads x.form) (subst (IsThing inside a_ref) at (h (ref n) (let s = e (ref n) in omega (arith, s, i, z))))

  -- what was made for a statement, and what stands around it, is not in what is in it
  made_apart : (around : Id → ℕ) (made : List Id) (part : Id → ℕ) → ((q : Id) → occurs q made + part q ≤ 1) → Disjoint around (λ q. occurs q made + part q) → Disjoint (with_made made around) part
  made_apart around made part o a q w = by (either (occurs q made) (around q) w) where
    by : ((0 < occurs q made) ⊎ (0 < around q)) → part q ≡ 0
    by (inl u) = let k = o q in omega (arith, k, u)
    by (inr u) = let k = a q u in omega (arith, k)

  sum_apart : (rest around part : Id → ℕ) → ((q : Id) → rest q + part q ≤ 1) → Disjoint around (λ q. rest q + part q) → Disjoint (λ q. rest q + around q) part
  sum_apart rest around part o a q w = by (either (rest q) (around q) w) where
    by : ((0 < rest q) ⊎ (0 < around q)) → part q ≡ 0
    by (inl u) = let k = o q in omega (arith, k, u)
    by (inr u) = let k = a q u in omega (arith, k)

  -- what is in an arm, without its comment
  arm_in : (k : Option ℕ) (part : Id → ℕ) → CommentThere app look k → Closed look (λ q. part q + times_comment q k) → Closed look part
  arm_in k part h c =
      part_closed (λ q. part q + times_comment q k) (λ q. times_comment q k) part (λ q. 0) (λ q. omega arith) c (λ q w. comment_named app look k (λ r. 0) h q w) (λ q w. absurd (omega (arith, w)))

  mutual
    parts_closed : (around : Id → ℕ) (l : Live) → There app look around l → Closed look (λ q. times q l) → ((q : Id) → times q l ≤ 1) → Disjoint around (λ q. times q l) → PartsClosed look l
    parts_closed around (still n) h c o a = tt
    parts_closed around (put_live n z) h c o a = tt
    parts_closed around (element_live n made xs zs ls) h c o a =
        let rest : Id → ℕ = λ q. (hit q (node n) + (occurs q made + times_attrs q xs)) + times_mods q zs in
        let part : Id → ℕ = λ q. times_in q ls in
        let inside : Id → ℕ = λ q. rest q + around q in
        lives_closed around ls h.4
        (part_closed (λ q. times q (element_live n made xs zs ls)) rest part inside (λ q. omega arith) c
        (λ q w. let T = IsThing inside q.kind (look q) in
        two app look T (hit q (node n) + (occurs q made + times_attrs q xs)) (times_mods q zs) w
        (λ u. two app look T (hit q (node n)) (occurs q made + times_attrs q xs) u (λ v. named_alone app look inside q (node n) v h.0)
        (λ v. two app look T (occurs q made) (times_attrs q xs) v (λ y. all_named app look around made inside (λ r. omega arith) h.1 q y) (λ y. attrs_named app look (with_made made around) xs inside (λ r. omega arith) h.2 q y)))
        (λ u. mods_named app look (with_made made around) zs inside (λ r. omega arith) h.3 q u))
        (sum_apart rest around part (λ q. let k = o q in omega (arith, k)) (λ q w. let g = a q w in omega (arith, g))))
        (λ q. let k = o q in omega (arith, k)) (λ q w. let g = a q w in omega (arith, g))
    parts_closed around (branch_live z b k ls) h c o a =
        let part : Id → ℕ = λ q. times_in q ls + times_comment q k in
        let arm = part_closed (λ q. times q (branch_live z b k ls)) (λ q. occurs q z.made) part (with_made z.made around) (λ q. refl) c (λ q w. h.0.1 q w) (made_apart around z.made part o a) in
        (arm, lives_closed around ls h.2 (arm_in k (λ q. times_in q ls) h.1 arm) (λ q. let i = o q in omega (arith, i)) (λ q w. let g = a q w in omega (arith, g)))
    parts_closed around (listed z is) h c o a =
        let part : Id → ℕ = λ q. times_items q is in
        let all = part_closed (λ q. times q (listed z is)) (λ q. occurs q z.made) part (with_made z.made around) (λ q. refl) c (λ q w. h.0.1 q w) (made_apart around z.made part o a) in
        (all, items_closed around is h.1 all (λ q. let i = o q in omega (arith, i)) (λ q w. let g = a q w in omega (arith, g)))
    parts_closed around (unlisted z k ls) h c o a =
        let part : Id → ℕ = λ q. times_in q ls + times_comment q k in
        let arm = part_closed (λ q. times q (unlisted z k ls)) (λ q. occurs q z.made) part (with_made z.made around) (λ q. refl) c (λ q w. h.0.1 q w) (made_apart around z.made part o a) in
        (arm, lives_closed around ls h.2 (arm_in k (λ q. times_in q ls) h.1 arm) (λ q. let i = o q in omega (arith, i)) (λ q w. let g = a q w in omega (arith, g)))
    parts_closed around (let_live made rs ls) h c o a =
        let part : Id → ℕ = λ q. times_in q ls in
        let apart = made_apart around made part o a in
        lives_closed (with_made made around) ls h.2 (part_closed (λ q. times q (let_live made rs ls)) (λ q. occurs q made) part (with_made made around) (λ q. refl) c (λ q w. h.0 q w) apart) (λ q. let i = o q in omega (arith, i)) apart
    parts_closed around (component_live i made gm args b ls) h c o a =
        let part : Id → ℕ = λ q. times_in q ls in
        let apart = made_apart around made part o a in
        lives_closed (with_made made around) ls h.3 (part_closed (λ q. times q (component_live i made gm args b ls)) (λ q. occurs q made) part (with_made made around) (λ q. refl) c (λ q w. h.0 q w) apart) (λ q. let i = o q in omega (arith, i)) apart
    parts_closed around (yield_live n made rs ls) h c o a =
        let part : Id → ℕ = λ q. times_in q ls in
        let apart = made_apart around made part o a in
        lives_closed (with_made made around) ls h.2 (part_closed (λ q. times q (yield_live n made rs ls)) (λ q. occurs q made) part (with_made made around) (λ q. refl) c (λ q w. h.0 q w) apart) (λ q. let i = o q in omega (arith, i)) apart
    parts_closed around (deep_live p) h c o a = tt

    items_closed : (around : Id → ℕ) (is : Items) → ThereItems app look around is → Closed look (λ q. times_items q is) → ((q : Id) → times_items q is ≤ 1) → Disjoint around (λ q. times_items q is) → PartsClosedItems look is
    items_closed around no_items h c o a = tt
    items_closed around (item_live z k ls is) h c o a =
        let one : Id → ℕ = item_count z k ls in
        let rest : Id → ℕ = λ q. times_items q is in
        let part : Id → ℕ = λ q. times_in q ls in
        let all : Id → ℕ = λ q. times_items q (item_live z k ls is) in
        let own : Id → ℕ = λ q. occurs q (item_made z) + times_comment q k in
        let inside = with_made (item_made z) around in
        let here = part_closed all rest one (λ q. rest q + around q) (λ q. omega arith) c (λ q w. named_items app look around is (λ r. rest r + around r) (λ r. omega arith) h.1 q w)
        (sum_apart rest around one (λ q. let i = o q in omega (arith, i)) (λ q w. let g = a q w in omega (arith, g))) in
        let others = part_closed all one rest (λ q. one q + around q) (λ q. refl) c
        (λ q w. named_items app look around (item_live z k ls no_items) (λ r. one r + around r) (λ r. omega arith) (h.0, tt) q (omega (arith, w))) (sum_apart one around rest o a) in
        let apart = made_apart around (item_made z) part (λ q. let i = o q in omega (arith, i)) (λ q w. let g = a q w in omega (arith, g)) in (
          (
            here,
            lives_closed inside ls h.0.3
                (part_closed one own part inside (λ q. omega arith) here
                (λ q w. two app look (IsThing inside q.kind (look q)) (occurs q (item_made z)) (times_comment q k) w (λ u. h.0.0 q u) (λ u. comment_named app look k inside h.0.2 q u)) apart)
                (λ q. let i = o q in omega (arith, i)) apart,
          ),
          items_closed around is h.1 others (λ q. let i = o q in omega (arith, i)) (λ q w. let g = a q w in omega (arith, g)),
        )

    lives_closed : (around : Id → ℕ) (ls : Lives) → ThereIn app look around ls → Closed look (λ q. times_in q ls) → ((q : Id) → times_in q ls ≤ 1) → Disjoint around (λ q. times_in q ls) → PartsClosedIn look ls
    lives_closed around no_lives h c o a = tt
    lives_closed around (live_and l ls) h c o a =
        let first : Id → ℕ = λ q. times q l in
        let rest : Id → ℕ = λ q. times_in q ls in
        let all : Id → ℕ = λ q. times_in q (live_and l ls) in (
          parts_closed around l h.0
              (part_closed all rest first (λ q. rest q + around q) (λ q. omega arith) c (λ q w. named_in app look around ls (λ r. rest r + around r) (λ r. omega arith) h.1 q w)
              (sum_apart rest around first (λ q. let i = o q in omega (arith, i)) (λ q w. let g = a q w in omega (arith, g))))
              (λ q. let i = o q in omega (arith, i)) (λ q w. let g = a q w in omega (arith, g)),
          lives_closed around ls h.1
              (part_closed all first rest (λ q. first q + around q) (λ q. refl) c (λ q w. named app look around l (λ r. first r + around r) (λ r. omega arith) h.0 q w) (sum_apart first around rest o a))
              (λ q. let i = o q in omega (arith, i)) (λ q w. let g = a q w in omega (arith, g)),
        )

-- where nothing else is there, nobody outside reads the tree
tree_closed : (app : App) (st : State) (l : Live) → Kept app st l → Closed st.look (λ q. times q l)
tree_closed app st l k n x at z = let e : None ≡ Some (row x) = sym (k.nothing (ref n) z) ∙ at in absurd cc

pub nobody_reads_into : NobodyReadsInto
nobody_reads_into app st l o k = parts_closed app st.look (λ q. 0) l k.there (tree_closed app st l k) o.once (λ q w. absurd (omega (arith, w)))
