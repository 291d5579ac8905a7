-- What stands in a list of what was rendered, one part at a time, and in each kind of statement.
use Rattle.std.proofs.Common.{◌≡◌, ◌<◌, ◌≤◌, ◌+◌, ℕ, suc, List, [], ◌∷◌, ◌++◌, Option, map, take, length, get_or, rules, sym, ap, ◌∙◌, arith}
use Rattle.std.specs.Prelude.{min}
use Rattle.std.specs.declared.vec.Vec.{Vec}
use Rattle.std.specs.declared.alloc.Global.{Global}
use Rattle.std.proofs.Math.Seq.{take-suc}
use Rattle.std.proofs.lemmas.List.{map-append, take_all}
use Rattle.gl_nodes.specs.Flat.{stamp_of}
use Rattle.gl_plain.specs.Live as l
use Rattle.gl_machine.specs.Code as c
use Rattle.gl_vm.specs.View.{Tables}
use Rattle.gl_code.specs.CodeView.{seen_code, seen_codes, seen_item_code, all_codes, all_items}
use Rattle.gl_code.specs.declared.code.Code.{Code, the_lemmas}
use Rattle.gl_code.specs.declared.code.Codes.{Codes}
use Rattle.gl_code.specs.declared.code.ItemCode.{ItemCode}
use Rattle.gl_code.specs.declared.code.Code.TheVariants.{Still, Put, Element, Branch, Listed, Unlisted, Let, Component, Root, Yield}
use Rattle.gl_code.proofs.CodeNests.{body_is}
use Rattle.gl_live.specs.Most.{most}
use Rattle.gl_live.specs.Counting.{weigh, weigh_in, weigh_items, weigh_comment, Counts}
use Rattle.gl_live.specs.declared.counting.Live as code
use Rattle.gl_live.proofs.Sums.{counts_with, counts_as}

-- Lists

module _ (a b : ℕ) where
  codes_end : (xs : List c.Code) (x : c.Code) → weigh_in a b (c.lives_of (all_codes (xs ++ x ∷ []))) ≡ weigh_in a b (c.lives_of (all_codes xs)) + weigh a b (c.live_of x)
  codes_end [] x = omega arith
  codes_end (y ∷ ys) x = let rest = codes_end ys x in omega (arith, rest)

  items_end : (xs : List (l.ItemSpot × (Option ℕ × c.Codes))) (x : l.ItemSpot × (Option ℕ × c.Codes))
      → weigh_items a b (c.items_of (all_items (xs ++ x ∷ []))) ≡ weigh_items a b (c.items_of (all_items xs)) + (weigh_in a b (c.lives_of x.1.1) + weigh_comment a x.1.0)
  items_end [] x = omega arith
  items_end (y ∷ ys) x = let rest = items_end ys x in omega (arith, rest)

-- the first so many of a list that is seen, and one more
taken : {X Y : Type 0} (f : X → Y) (xs : List X) (i : ℕ) (x : X) → i < length xs → x ≡ get_or xs i x → map f (take (i + 1) xs) ≡ map f (take i xs) ++ f x ∷ []
taken f xs i x lt is =
    let at : take (i + 1) xs ≡ take i xs ++ (get_or xs i x ∷ []) = ap (λ k. take k xs) (let e : i + 1 ≡ suc i = omega arith in e) ∙ take-suc xs i x lt in
    ap (map f) at ∙ (map-append f (take i xs) (get_or xs i x ∷ []) ∙ ap (λ y. map f (take i xs) ++ f y ∷ []) (sym is))

module _ (n : Tables) where
  -- one statement more
  pub codes_go : (xs : List Code) (i : ℕ) (x : Code) (sum more new : code.Live) → i < length xs → x ≡ get_or xs i x
      → Counts sum (λ a b. weigh_in a b (c.lives_of (all_codes (map (seen_code n) (take i xs))))) → Counts more (λ a b. weigh a b (c.live_of (seen_code n x)))
      → new.nodes ≡ min (sum.nodes + more.nodes) most → new.instances ≡ min (sum.instances + more.instances) most
      → Counts new (λ a b. weigh_in a b (c.lives_of (all_codes (map (seen_code n) (take (i + 1) xs)))))
  codes_go xs i x sum more new lt is p q e k =
      let ys = map (seen_code n) (take i xs) in
      counts_as new (λ a b. weigh_in a b (c.lives_of (all_codes ys)) + weigh a b (c.live_of (seen_code n x))) _
      (λ a b. sym (codes_end a b ys (seen_code n x)) ∙ ap (λ zs. weigh_in a b (c.lives_of (all_codes zs))) (sym (taken (seen_code n) xs i x lt is)))
      (counts_with sum more new (λ a b. weigh_in a b (c.lives_of (all_codes ys))) (λ a b. weigh a b (c.live_of (seen_code n x))) p q e k)

  pub codes_all : (xs : List Code) (i : ℕ) (sum : code.Live) (codes : Codes) → length xs ≤ i → xs ≡ codes.list.items
      → Counts sum (λ a b. weigh_in a b (c.lives_of (all_codes (map (seen_code n) (take i xs))))) → Counts sum (λ a b. weigh_in a b (c.lives_of (seen_codes n codes)))
  codes_all xs i sum codes le e p =
      counts_as sum (λ a b. weigh_in a b (c.lives_of (all_codes (map (seen_code n) (take i xs))))) _
      (λ a b. ap (λ zs. weigh_in a b (c.lives_of (all_codes (map (seen_code n) zs)))) (take_all i xs le ∙ e) ∙ ap (λ cs. weigh_in a b (c.lives_of cs)) (sym (body_is n codes))) p

  -- one item more
  pub items_go : (xs : List ItemCode) (i : ℕ) (x : ItemCode) (sum more new : code.Live) → i < length xs → x ≡ get_or xs i x
      → Counts sum (λ a b. weigh_items a b (c.items_of (all_items (map (seen_item_code n) (take i xs)))))
      → (let y = seen_item_code n x in Counts more (λ a b. weigh_in a b (c.lives_of y.1.1) + weigh_comment a y.1.0))
      → new.nodes ≡ min (sum.nodes + more.nodes) most → new.instances ≡ min (sum.instances + more.instances) most
      → Counts new (λ a b. weigh_items a b (c.items_of (all_items (map (seen_item_code n) (take (i + 1) xs)))))
  items_go xs i x sum more new lt is p q e k =
      let ys = map (seen_item_code n) (take i xs) in
      let y = seen_item_code n x in
      counts_as new (λ a b. weigh_items a b (c.items_of (all_items ys)) + (weigh_in a b (c.lives_of y.1.1) + weigh_comment a y.1.0)) _
      (λ a b. sym (items_end a b ys y) ∙ ap (λ zs. weigh_items a b (c.items_of (all_items zs))) (sym (taken (seen_item_code n) xs i x lt is)))
      (counts_with sum more new (λ a b. weigh_items a b (c.items_of (all_items ys))) (λ a b. weigh_in a b (c.lives_of y.1.1) + weigh_comment a y.1.0) p q e k)

  pub items_all : (xs : List ItemCode) (i : ℕ) (sum : code.Live) → length xs ≤ i
      → Counts sum (λ a b. weigh_items a b (c.items_of (all_items (map (seen_item_code n) (take i xs))))) → Counts sum (λ a b. weigh_items a b (c.items_of (all_items (map (seen_item_code n) xs))))
  items_all xs i sum le p =
      counts_as sum (λ a b. weigh_items a b (c.items_of (all_items (map (seen_item_code n) (take i xs))))) _
      (λ a b. ap (λ zs. weigh_items a b (c.items_of (all_items (map (seen_item_code n) zs)))) (take_all i xs le)) p

  -- Statements

  module _ (a b : ℕ) where
    pub still_weighs : (node : _) → a ≡ weigh a b (c.live_of (seen_code n (Still node)))
    still_weighs node = search (rules, the_lemmas)

    pub put_weighs : (node spot : _) → a ≡ weigh a b (c.live_of (seen_code n (Put node spot)))
    put_weighs node spot = search (rules, the_lemmas)

    pub element_weighs : (node made attrs mods : _) (body : Codes) → a + weigh_in a b (c.lives_of (seen_codes n body)) ≡ weigh a b (c.live_of (seen_code n (Element node made attrs mods body)))
    element_weighs node made attrs mods body = search (rules, the_lemmas)

    pub branch_weighs : (choice spot main comment : _) (body : Codes)
        → weigh_in a b (c.lives_of (seen_codes n body)) + weigh_comment a (stamp_of comment) ≡ weigh a b (c.live_of (seen_code n (Branch choice spot main comment body)))
    branch_weighs choice spot main comment body = search (rules, the_lemmas)

    pub listed_weighs : (listing spot : _) (items : Vec ItemCode Global) → weigh_items a b (c.items_of (all_items (map (seen_item_code n) items.items))) ≡ weigh a b (c.live_of (seen_code n (Listed listing spot items)))
    listed_weighs listing spot items = search (rules, the_lemmas)

    pub unlisted_weighs : (listing spot comment : _) (body : Codes)
        → weigh_in a b (c.lives_of (seen_codes n body)) + weigh_comment a (stamp_of comment) ≡ weigh a b (c.live_of (seen_code n (Unlisted listing spot comment body)))
    unlisted_weighs listing spot comment body = search (rules, the_lemmas)

    pub let_weighs : (made params : _) (body : Codes) → weigh_in a b (c.lives_of (seen_codes n body)) ≡ weigh a b (c.live_of (seen_code n (Let made params body)))
    let_weighs made params body = search (rules, the_lemmas)

    pub component_weighs : (owner block made args : _) (body : Codes) → b + weigh_in a b (c.lives_of (seen_codes n body)) ≡ weigh a b (c.live_of (seen_code n (Component owner block made args body)))
    component_weighs owner block made args body = search (rules, the_lemmas)

    pub root_weighs : (owner : _) (body : Codes) → b + weigh_in a b (c.lives_of (seen_codes n body)) ≡ weigh a b (c.live_of (seen_code n (Root owner body)))
    root_weighs owner body = search (rules, the_lemmas)

    pub yield_weighs : (name made params : _) (body : Codes) → weigh_in a b (c.lives_of (seen_codes n body)) ≡ weigh a b (c.live_of (seen_code n (Yield name made params body)))
    yield_weighs name made params body = search (rules, the_lemmas)

    pub item_weighs : (item : ItemCode) → weigh_in a b (c.lives_of (seen_codes n item.body)) + weigh_comment a (stamp_of item.comment) ≡ (let y = seen_item_code n item in weigh_in a b (c.lives_of y.1.1) + weigh_comment a y.1.0)
    item_weighs item = search (rules, the_lemmas)

  -- a statement that is what a call counts
  pub counts_code : (x : code.Live) (code other : Code) (f : ℕ → ℕ → ℕ) → code ≡ other → ((a b : ℕ) → f a b ≡ weigh a b (c.live_of (seen_code n other))) → Counts x f → Counts x (λ a b. weigh a b (c.live_of (seen_code n code)))
  counts_code x code other f is e p = counts_as x f _ (λ a b. e a b ∙ ap (λ z. weigh a b (c.live_of (seen_code n z))) (sym is)) p
