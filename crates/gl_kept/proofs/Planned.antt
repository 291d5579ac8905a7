-- The items moved in a turn are those that the plans of its lists move.
use Rattle.std.proofs.Common.{◌≡◌, ◌+◌, ℕ, suc, List, [], ◌∷◌, ◌++◌, map, Bool, true, false, Option, Some, None, cond, refl, sym, ap, ap₂, ◌∙◌, subst, inl, inr, ◌⊎◌, arith}
use Rattle.std.specs.Prelude.{filter, filter_map, length, sum, if◌then◌else◌, unwrap_or, codes}
use Rattle.std.specs.List.{cons_option}
use Rattle.std.proofs.lemmas.List.Elements.{filter-append}
use Rattle.std.proofs.lemmas.List.Sums.{sum_by-cons}
use Rattle.gl_base.specs.Texts.{Text}
use Rattle.gl_value.specs.Value as v
use Rattle.gl_value.specs.Value.{Value, Values, no_values, value, plain, plain_values, plain_members, key_of}
use Rattle.gl_ast.specs.Template.{Plain}
use Rattle.gl_meaning.specs.App.{App}
use Rattle.gl_meaning.specs.Path.{Path, path_eq, at_path}
use Rattle.gl_meaning.specs.Eval.{Store}
use Rattle.gl_meaning.specs.Known.{Among}
use Rattle.gl_meaning.specs.Laws.{NoRepeat}
use Rattle.gl_meaning.specs.Render.{Piece, element_node, text_node, comment_node, component, branch, item_region, position, too_deep, Forest, no_pieces, piece, Entry, entries, occurrences, draw}
use Rattle.gl_meaning.specs.Changes.{pieces, pieces_in, region_path, Item, item_in, item_of, rendered_items}
use Rattle.gl_meaning.specs.Work.{list_path, kept_one, is_passed}
use Rattle.gl_meaning.proofs.Equal.{path_itself}
use Rattle.gl_meaning.proofs.Once.{regions_once}
use Rattle.gl_meaning.proofs.Pieces.{among_either, among_left, among_right, filter_map_append, some_same, none_some}
use Rattle.gl_each.specs.Key.{entry_keys}
use Rattle.gl_each.specs.Sync.{Step, IsSync}
use Rattle.gl_each.specs.Moved.{item_at, items_at, persisting, moved_among, moves}
use Rattle.gl_each.proofs.Moving.{moves_are_moved}
use Rattle.gl_turns.specs.Moved.{of_list, moved_between, moved_in}
use Rattle.gl_turns.proofs.Found.{path_other, at_gives, at_none}
use Rattle.gl_turns.proofs.Moved.{moved_by_list}
use Rattle.gl_kept.specs.Listed.{direct_items, list_in, lists, AreEntries, item_keys, keys_of_list, keyed_lists, keys_at, ArePlans}
use Rattle.gl_kept.specs.Laws.{ItemsByList, ListsAreEntries, MovedByPlans}
use Rattle.gl_kept.proofs.Listed.{Listed, ListedIn, draw_listed}

abbrev Items : List Piece → List Item
Items qs = filter_map item_in qs

abbrev Lists : List Piece → List (Path × List Item)
Lists qs = filter_map list_in qs

abbrev Firsts : List (Path × List Item) → List Path
Firsts zs = map (λ z. z.0) zs

firsts_join : (xs ys : List (Path × List Item)) → Firsts (xs ++ ys) ≡ Firsts xs ++ Firsts ys
firsts_join [] ys = refl
firsts_join (x ∷ xs) ys = ap (λ zs. x.0 ∷ zs) (firsts_join xs ys)

first_among : (z : Path × List Item) (xs : List (Path × List Item)) → Among z xs → Among z.0 (Firsts xs)
first_among z (x ∷ xs) (inl e) = inl (ap (λ y. y.0) e)
first_among z (x ∷ xs) (inr m) = inr (first_among z xs m)
first_among z [] m = absurd m

-- what doesn't repeat, in parts
repeat_left : (xs ys : List Path) → NoRepeat (xs ++ ys) → NoRepeat xs
repeat_left [] ys d = tt
repeat_left (x ∷ xs) ys d = ((λ m. d.0 (among_left x xs ys m)), repeat_left xs ys d.1)

repeat_right : (xs ys : List Path) → NoRepeat (xs ++ ys) → NoRepeat ys
repeat_right [] ys d = d
repeat_right (x ∷ xs) ys d = repeat_right xs ys d.1

repeat_apart : (q : Path) (xs ys : List Path) → NoRepeat (xs ++ ys) → Among q xs → Among q ys → ⊥
repeat_apart q (x ∷ xs) ys d (inl e) n = d.0 (among_right x xs ys (subst (λ j. Among j ys) e n))
repeat_apart q (x ∷ xs) ys d (inr m) n = repeat_apart q xs ys d.1 m n
repeat_apart q [] ys d m n = m

of_join : (q : Path) (xs ys : List Piece) → of_list q (Items (xs ++ ys)) ≡ of_list q (Items xs) ++ of_list q (Items ys)
of_join q xs ys = ap (of_list q) (filter_map_append item_in xs ys) ∙ filter-append (λ i. path_eq (list_path i.path) q) (Items xs) (Items ys)

-- an item of the list, and one of another
of_here : (q : Path) (i : Item) (is : List Item) → list_path i.path ≡ q → of_list q (i ∷ is) ≡ i ∷ of_list q is
of_here q i is e = ap (λ b. cond b (i ∷ of_list q is) (of_list q is)) (subst (λ p. path_eq (list_path i.path) p ≡ true) e (path_itself (list_path i.path)))

of_other : (q : Path) (i : Item) (is : List Item) → (list_path i.path ≡ q → ⊥) → of_list q (i ∷ is) ≡ of_list q is
of_other q i is d = ap (λ b. cond b (i ∷ of_list q is) (of_list q is)) (path_other (list_path i.path) q d)

-- no list of these pieces has the path
abbrev NoList : Path → List Piece → Type 0
NoList q xs = Among q (Firsts (Lists xs)) → ⊥

lists_join : (xs ys : List Piece) → Firsts (Lists (xs ++ ys)) ≡ Firsts (Lists xs) ++ Firsts (Lists ys)
lists_join xs ys = ap Firsts (filter_map_append list_in xs ys) ∙ firsts_join (Lists xs) (Lists ys)

no_left : (q : Path) (xs ys : List Piece) → NoList q (xs ++ ys) → NoList q xs
no_left q xs ys d m = d (subst (Among q) (sym (lists_join xs ys)) (among_left q (Firsts (Lists xs)) (Firsts (Lists ys)) m))

no_right : (q : Path) (xs ys : List Piece) → NoList q (xs ++ ys) → NoList q ys
no_right q xs ys d m = d (subst (Among q) (sym (lists_join xs ys)) (among_right q (Firsts (Lists xs)) (Firsts (Lists ys)) m))

nowhere : (q : Path) → None ≡ Some q → ⊥
nowhere q e = none_some q e

mutual
  none_in : (q : Path) (c : Option Path) (x : Piece) → ListedIn c x → (c ≡ Some q → ⊥) → NoList q (pieces_in x) → of_list q (Items (pieces_in x)) ≡ []
  none_in q c (element_node p tag a m f) h d n = none q None f h (nowhere q) n
  none_in q c (component p s f) h d n = none q None f h (nowhere q) n
  none_in q c (branch p f) h d n = none q (Some p) f h.0 (λ e. n (inl (sym (some_same p q e)))) (λ m. n (inr m))
  none_in q c (item_region p u i f) h d n =
      of_other q (record { path = p; value = u; index = i }) (Items (pieces f)) (λ e. d (h.0 ∙ ap Some e)) ∙ none q None f h.1 (nowhere q) n
  none_in q c (text_node p z) h d n = refl
  none_in q c (comment_node p z) h d n = refl
  none_in q c (position p vs) h d n = refl
  none_in q c (too_deep p) h d n = refl

  none : (q : Path) (c : Option Path) (f : Forest) → Listed c f → (c ≡ Some q → ⊥) → NoList q (pieces f) → of_list q (Items (pieces f)) ≡ []
  none q c no_pieces h d n = refl
  none q c (piece x f) h d n =
      of_join q (pieces_in x) (pieces f) ∙ ap₂ (λ a b. a ++ b) (none_in q c x h.0 d (no_left q (pieces_in x) (pieces f) n)) (none q c f h.1 d (no_right q (pieces_in x) (pieces f) n))

-- a list's own items
own : (q : Path) (f : Forest) → Listed (Some q) f → NoList q (pieces f) → of_list q (Items (pieces f)) ≡ direct_items f
own q no_pieces h n = refl
own q (piece x f) h n = by x h.0 (no_left q (pieces_in x) (pieces f) n) (own q f h.1 (no_right q (pieces_in x) (pieces f) n)) where
  both : (xs : List Piece) → of_list q (Items xs) ≡ [] → of_list q (Items (pieces f)) ≡ direct_items f → of_list q (Items (xs ++ pieces f)) ≡ direct_items f
  both xs e g = of_join q xs (pieces f) ∙ ap₂ (λ a b. a ++ b) e g

  by : (x : Piece) → ListedIn (Some q) x → NoList q (pieces_in x) → of_list q (Items (pieces f)) ≡ direct_items f → of_list q (Items (pieces_in x ++ pieces f)) ≡ direct_items (piece x f)
  by (element_node p tag a m g) k d e = both (pieces g) (none q None g k (nowhere q) d) e
  by (component p s g) k d e = both (pieces g) (none q None g k (nowhere q) d) e
  by (branch p g) k d e = both (pieces g) (none q (Some p) g k.0 (λ o. d (inl (sym (some_same p q o)))) (λ m. d (inr m))) e
  by (item_region p u i g) k d e =
      of_here q (record { path = p; value = u; index = i }) (Items (pieces g ++ pieces f)) (sym (some_same q (list_path p) k.0))
      ∙ ap (λ is. record { path = p; value = u; index = i } ∷ is) (both (pieces g) (none q None g k.1 (nowhere q) d) e)
  by (text_node p z) k d e = e
  by (comment_node p z) k d e = e
  by (position p vs) k d e = e
  by (too_deep p) k d e = e

mutual
  found_in : (z : Path × List Item) (c : Option Path) (x : Piece) → ListedIn c x → (c ≡ Some z.0 → ⊥) → NoRepeat (Firsts (Lists (pieces_in x))) → Among z (Lists (pieces_in x)) → of_list z.0 (Items (pieces_in x)) ≡ z.1
  found_in z c (element_node p tag a m f) h d n k = found z None f h (nowhere z.0) n k
  found_in z c (component p s f) h d n k = found z None f h (nowhere z.0) n k
  found_in z c (branch p f) h d n (inl e) =
      let at_p : z.0 ≡ p = ap (λ y. y.0) e in
      ap (λ q. of_list q (Items (pieces f))) at_p ∙ (own p f h.0 n.0 ∙ sym (ap (λ y. y.1) e))
  found_in z c (branch p f) h d n (inr k) = found z (Some p) f h.0 (λ e. n.0 (subst (λ q. Among q (Firsts (Lists (pieces f)))) (sym (some_same p z.0 e)) (first_among z (Lists (pieces f)) k))) n.1 k
  found_in z c (item_region p u i f) h d n k =
      of_other z.0 (record { path = p; value = u; index = i }) (Items (pieces f)) (λ e. d (h.0 ∙ ap Some e)) ∙ found z None f h.1 (nowhere z.0) n k
  found_in z c (text_node p y) h d n k = absurd k
  found_in z c (comment_node p y) h d n k = absurd k
  found_in z c (position p vs) h d n k = absurd k
  found_in z c (too_deep p) h d n k = absurd k

  -- The items with the path of a list are the list's own.
  found : (z : Path × List Item) (c : Option Path) (f : Forest) → Listed c f → (c ≡ Some z.0 → ⊥) → NoRepeat (Firsts (Lists (pieces f))) → Among z (Lists (pieces f)) → of_list z.0 (Items (pieces f)) ≡ z.1
  found z c no_pieces h d n k = absurd k
  found z c (piece x f) h d n k =
      by (among_either z (Lists (pieces_in x)) (Lists (pieces f)) (subst (Among z) (filter_map_append list_in (pieces_in x) (pieces f)) k)) (subst NoRepeat (lists_join (pieces_in x) (pieces f)) n)
      (λ a b. found_in z c x h.0 d a b) (λ a b. found z c f h.1 d a b) (λ a. none_in z.0 c x h.0 d a) (λ a. none z.0 c f h.1 d a)
    where
      by : (Among z (Lists (pieces_in x)) ⊎ Among z (Lists (pieces f))) → NoRepeat (Firsts (Lists (pieces_in x)) ++ Firsts (Lists (pieces f)))
          → (NoRepeat (Firsts (Lists (pieces_in x))) → Among z (Lists (pieces_in x)) → of_list z.0 (Items (pieces_in x)) ≡ z.1) → (NoRepeat (Firsts (Lists (pieces f))) → Among z (Lists (pieces f)) → of_list z.0 (Items (pieces f)) ≡ z.1)
          → (NoList z.0 (pieces_in x) → of_list z.0 (Items (pieces_in x)) ≡ []) → (NoList z.0 (pieces f) → of_list z.0 (Items (pieces f)) ≡ []) → of_list z.0 (Items (pieces_in x ++ pieces f)) ≡ z.1
      by (inl m) r g1 g2 n1 n2 =
          of_join z.0 (pieces_in x) (pieces f)
          ∙ (ap₂ (λ a b. a ++ b) (g1 (repeat_left (Firsts (Lists (pieces_in x))) (Firsts (Lists (pieces f))) r) m)
          (n2 (λ o. repeat_apart z.0 (Firsts (Lists (pieces_in x))) (Firsts (Lists (pieces f))) r (first_among z (Lists (pieces_in x)) m) o))
          ∙ Rattle.std.proofs.lemmas.List.append-nil z.1)
      by (inr m) r g1 g2 n1 n2 =
          of_join z.0 (pieces_in x) (pieces f)
          ∙ ap₂ (λ a b. a ++ b) (n1 (λ o. repeat_apart z.0 (Firsts (Lists (pieces_in x))) (Firsts (Lists (pieces f))) r o (first_among z (Lists (pieces f)) m)))
          (g2 (repeat_right (Firsts (Lists (pieces_in x))) (Firsts (Lists (pieces f))) r) m)

-- Each item is of a list.

no_house : (q : Path) (T : Type 0) → (None ≡ Some q) ⊎ T → T
no_house q T (inl e) = absurd (nowhere q e)
no_house q T (inr m) = m

mutual
  housed_in : (i : Item) (c : Option Path) (x : Piece) → ListedIn c x → Among i (Items (pieces_in x)) → (c ≡ Some (list_path i.path)) ⊎ Among (list_path i.path) (Firsts (Lists (pieces_in x)))
  housed_in i c (element_node p tag a m f) h k = inr (no_house (list_path i.path) (Among (list_path i.path) (Firsts (Lists (pieces f)))) (housed i None f h k))
  housed_in i c (component p s f) h k = inr (no_house (list_path i.path) (Among (list_path i.path) (Firsts (Lists (pieces f)))) (housed i None f h k))
  housed_in i c (branch p f) h k = elim (housed i (Some p) f h.0 k) [ inl e ↦ inr (inl (sym (some_same p (list_path i.path) e))) | inr m ↦ inr (inr m) ]
  housed_in i c (item_region p u n f) h (inl e) = inl (h.0 ∙ ap (λ (j : Item). Some (list_path j.path)) (sym e))
  housed_in i c (item_region p u n f) h (inr k) = inr (no_house (list_path i.path) (Among (list_path i.path) (Firsts (Lists (pieces f)))) (housed i None f h.1 k))
  housed_in i c (text_node p z) h k = absurd k
  housed_in i c (comment_node p z) h k = absurd k
  housed_in i c (position p vs) h k = absurd k
  housed_in i c (too_deep p) h k = absurd k

  housed : (i : Item) (c : Option Path) (f : Forest) → Listed c f → Among i (Items (pieces f)) → (c ≡ Some (list_path i.path)) ⊎ Among (list_path i.path) (Firsts (Lists (pieces f)))
  housed i c no_pieces h k = absurd k
  housed i c (piece x f) h k = by (among_either i (Items (pieces_in x)) (Items (pieces f)) (subst (Among i) (filter_map_append item_in (pieces_in x) (pieces f)) k)) (housed_in i c x h.0) (housed i c f h.1) where
    to : (Among (list_path i.path) (Firsts (Lists (pieces_in x)) ++ Firsts (Lists (pieces f)))) → Among (list_path i.path) (Firsts (Lists (pieces_in x ++ pieces f)))
    to m = subst (Among (list_path i.path)) (sym (lists_join (pieces_in x) (pieces f))) m

    by : (Among i (Items (pieces_in x)) ⊎ Among i (Items (pieces f))) → (Among i (Items (pieces_in x)) → (c ≡ Some (list_path i.path)) ⊎ Among (list_path i.path) (Firsts (Lists (pieces_in x))))
        → (Among i (Items (pieces f)) → (c ≡ Some (list_path i.path)) ⊎ Among (list_path i.path) (Firsts (Lists (pieces f)))) → (c ≡ Some (list_path i.path)) ⊎ Among (list_path i.path) (Firsts (Lists (pieces_in x ++ pieces f)))
    by (inl m) g1 g2 = elim (g1 m) [ inl e ↦ inl e | inr n ↦ inr (to (among_left (list_path i.path) (Firsts (Lists (pieces_in x))) (Firsts (Lists (pieces f))) n)) ]
    by (inr m) g1 g2 = elim (g2 m) [ inl e ↦ inl e | inr n ↦ inr (to (among_right (list_path i.path) (Firsts (Lists (pieces_in x))) (Firsts (Lists (pieces f))) n)) ]

-- Lists are entries, and their paths differ

mutual
  entries_at : (z : Path × List Item) (c : Option Path) (x : Piece) → ListedIn c x → Among z (Lists (pieces_in x)) → AreEntries z.0 z.1
  entries_at z c (element_node p tag a m f) h k = entries_of z None f h k
  entries_at z c (component p s f) h k = entries_of z None f h k
  entries_at z c (branch p f) h (inl e) = subst (λ (y : Path × List Item). AreEntries y.0 y.1) (sym e) h.1
  entries_at z c (branch p f) h (inr k) = entries_of z (Some p) f h.0 k
  entries_at z c (item_region p u i f) h k = entries_of z None f h.1 k
  entries_at z c (text_node p y) h k = absurd k
  entries_at z c (comment_node p y) h k = absurd k
  entries_at z c (position p vs) h k = absurd k
  entries_at z c (too_deep p) h k = absurd k

  entries_of : (z : Path × List Item) (c : Option Path) (f : Forest) → Listed c f → Among z (Lists (pieces f)) → AreEntries z.0 z.1
  entries_of z c no_pieces h k = absurd k
  entries_of z c (piece x f) h k =
      elim (among_either z (Lists (pieces_in x)) (Lists (pieces f)) (subst (Among z) (filter_map_append list_in (pieces_in x) (pieces f)) k)) [ inl m ↦ entries_at z c x h.0 m | inr m ↦ entries_of z c f h.1 m ]

-- the path of a list is that of a region
list_region : (q : Path) (xs : List Piece) → Among q (Firsts (Lists xs)) → Among q (filter_map region_path xs)
list_region q [] m = m
list_region q (x ∷ xs) m = by x (list_region q xs) m where
  by : (x : Piece) → (Among q (Firsts (Lists xs)) → Among q (filter_map region_path xs)) → Among q (Firsts (Lists (x ∷ xs))) → Among q (filter_map region_path (x ∷ xs))
  by (branch p f) g (inl e) = inl e
  by (branch p f) g (inr n) = inr (g n)
  by (component p s f) g n = inr (g n)
  by (item_region p u i f) g n = inr (g n)
  by (element_node p tag a ms f) g n = g n
  by (text_node p z) g n = g n
  by (comment_node p z) g n = g n
  by (position p vs) g n = g n
  by (too_deep p) g n = g n

lists_once : (xs : List Piece) → NoRepeat (filter_map region_path xs) → NoRepeat (Firsts (Lists xs))
lists_once [] d = tt
lists_once (x ∷ xs) d = by x (list_region) (lists_once xs) d where
  by : (x : Piece) → ((q : Path) (ys : List Piece) → Among q (Firsts (Lists ys)) → Among q (filter_map region_path ys)) → (NoRepeat (filter_map region_path xs) → NoRepeat (Firsts (Lists xs)))
      → NoRepeat (filter_map region_path (x ∷ xs)) → NoRepeat (Firsts (Lists (x ∷ xs)))
  by (branch p f) sub g n = ((λ m. n.0 (sub p xs m)), g n.1)
  by (component p s f) sub g n = g n.1
  by (item_region p u i f) sub g n = g n.1
  by (element_node p tag a ms f) sub g n = g n
  by (text_node p z) sub g n = g n
  by (comment_node p z) sub g n = g n
  by (position p vs) sub g n = g n
  by (too_deep p) sub g n = g n

drawn_once : (app : App) (σ : Store) → NoRepeat (Firsts (lists (draw app σ)))
drawn_once app σ = lists_once (pieces (draw app σ)) (regions_once app σ)

pub items_by_list : ItemsByList
items_by_list app σ = (
  (λ z m. found z None (draw app σ) (draw_listed app σ) (nowhere z.0) (drawn_once app σ) m),
  (λ i m. no_house (list_path i.path) (Among (list_path i.path) (Firsts (lists (draw app σ)))) (housed i None (draw app σ) (draw_listed app σ) m)),
)

pub lists_are_entries : ListsAreEntries
lists_are_entries app σ z m = entries_of z None (draw app σ) (draw_listed app σ) m

-- Plans
--
-- How many items are moved depends on their keys and places alone. So both lists may be taken with their keys as values, and one text for the
-- key, "@identity", whatever that of the template is.

mutual
  plain_twice : (p : Plain) → plain {P = ⊥} (plain {P = Path} p) ≡ p
  plain_twice v.undefined = refl
  plain_twice v.null = refl
  plain_twice (v.boolean b) = refl
  plain_twice (v.integer z) = refl
  plain_twice (v.text s) = refl
  plain_twice (v.list ps) = ap v.list (plain_values_twice ps)
  plain_twice (v.pairs ms) = ap v.pairs (plain_members_twice ms)
  plain_twice (v.action o n ps) = absurd o

  plain_values_twice : (ps : Values ⊥) → plain_values {P = ⊥} (plain_values {P = Path} ps) ≡ ps
  plain_values_twice v.no_values = refl
  plain_values_twice (v.value p ps) = ap₂ v.value (plain_twice p) (plain_values_twice ps)

  plain_members_twice : (ms : v.Members ⊥) → plain_members {P = ⊥} (plain_members {P = Path} ms) ≡ ms
  plain_members_twice v.no_members = refl
  plain_members_twice (v.member k p ms) = ap₂ (v.member k) (plain_twice p) (plain_members_twice ms)

abbrev keyed : Entry → Entry
keyed e = record { key = e.key; occurrence = e.occurrence; value = plain e.key; index = e.index }

abbrev key_values : List Entry → Values Path
key_values [] = no_values
key_values (e ∷ es) = value (plain e.key) (key_values es)

keyed_entries : (k : Text) (i : ℕ) (before : List Plain) (vs : Values Path) → entries (codes "@identity") i before (key_values (entries k i before vs)) ≡ map keyed (entries k i before vs)
keyed_entries k i before no_values = refl
keyed_entries k i before (value u vs) =
    let key : Plain = key_of k i u in
    let rest = key_values (entries k (suc i) (key ∷ before) vs) in
    ap (λ (z : Plain). record { key = z; occurrence = occurrences z before; value = plain key; index = i } ∷ entries (codes "@identity") (suc i) (z ∷ before) rest) (plain_twice key)
    ∙ ap (λ es. keyed (record { key = key; occurrence = occurrences key before; value = u; index = i }) ∷ es) (keyed_entries k (suc i) (key ∷ before) vs)

keys_same : (es : List Entry) → entry_keys (map keyed es) ≡ entry_keys es
keys_same [] = refl
keys_same (e ∷ es) = ap (λ ks. Rattle.gl_each.specs.Key.entry_key e ∷ ks) (keys_same es)

keys_are : (p : Path) (es : List Entry) → item_keys (items_at p es) ≡ entry_keys es
keys_are p [] = refl
keys_are p (e ∷ es) = ap (λ ks. Rattle.gl_each.specs.Key.entry_key e ∷ ks) (keys_are p es)

one_same : (p q : Path) (i : Item) (es : List Entry) → kept_one i (item_of q (items_at p (map keyed es))) ≡ kept_one i (item_of q (items_at p es))
one_same p q i [] = refl
one_same p q i (e ∷ es) = by (path_eq q (item_at p e).path) (one_same p q i es) where
  by : (b : Bool) → kept_one i (item_of q (items_at p (map keyed es))) ≡ kept_one i (item_of q (items_at p es))
      → kept_one i (if b then Some (item_at p (keyed e)) else item_of q (items_at p (map keyed es))) ≡ kept_one i (if b then Some (item_at p e) else item_of q (items_at p es))
  by true h = refl
  by false h = h

kept_same : (p : Path) (e : Entry) (o : Option Item) → kept_one (item_at p (keyed e)) o ≡ kept_one (item_at p e) o
kept_same p e None = refl
kept_same p e (Some x) = refl

persisting_same : (p : Path) (es fs : List Entry) → persisting (items_at p (map keyed es)) (items_at p (map keyed fs)) ≡ persisting (items_at p es) (items_at p fs)
persisting_same p es [] = refl
persisting_same p es (f ∷ fs) =
    ap₂ cons_option (kept_same p f (item_of (item_at p f).path (items_at p (map keyed es))) ∙ one_same p (item_at p f).path (item_at p f) es) (persisting_same p es fs)

-- the plan between any entries
entries_moved : (p : Path) (k l : Text) (old new : Values Path) (steps : List Step) (removed : List ℕ) → let es = entries k 0 [] old in let fs = entries l 0 [] new in
    IsSync (entry_keys es) (entry_keys fs) steps removed → moves steps ≡ moved_among (items_at p es) (items_at p fs)
entries_moved p k l old new steps removed h =
    let es = entries k 0 [] old in
    let fs = entries l 0 [] new in
    let e = keyed_entries k 0 [] old in
    let f = keyed_entries l 0 [] new in
    moves_are_moved p (codes "@identity") (key_values es) (key_values fs) steps removed
    (subst (λ xs. IsSync (entry_keys xs) (entry_keys (entries (codes "@identity") 0 [] (key_values fs))) steps removed) (sym e)
    (subst (λ ys. IsSync (entry_keys (map keyed es)) (entry_keys ys) steps removed) (sym f)
    (subst (λ ks. IsSync ks (entry_keys (map keyed fs)) steps removed) (sym (keys_same es)) (subst (λ ks. IsSync (entry_keys es) ks steps removed) (sym (keys_same fs)) h))))
    ∙ (ap₂ (λ xs ys. moved_among (items_at p xs) (items_at p ys)) e f ∙ ap (λ ks. length (filter (is_passed ks) ks)) (persisting_same p es fs))

-- the plan between lists of entries
lists_moved : (p : Path) (olds news : List Item) (steps : List Step) (removed : List ℕ) → AreEntries p olds → AreEntries p news → IsSync (item_keys olds) (item_keys news) steps removed → moves steps ≡ moved_between olds news
lists_moved p olds news steps removed a b h =
    let es = entries a.0 0 [] a.1 in
    let fs = entries b.0 0 [] b.1 in
    entries_moved p a.0 b.0 a.1 b.1 steps removed
    (subst (λ ks. IsSync ks (entry_keys fs) steps removed) (ap item_keys a.2 ∙ keys_are p es) (subst (λ ks. IsSync (item_keys olds) ks steps removed) (ap item_keys b.2 ∙ keys_are p fs) h))
    ∙ ap₂ moved_among (sym a.2) (sym b.2)

-- the keys of the list with a path are those of its items
keys_found : (q : Path) (xs : List (Path × List Item)) → keys_at q (map keys_of_list xs) ≡ item_keys (unwrap_or (at_path q xs) [])
keys_found q [] = refl
keys_found q (x ∷ xs) = by (path_eq q x.0) (keys_found q xs) where
  by : (b : Bool) → keys_at q (map keys_of_list xs) ≡ item_keys (unwrap_or (at_path q xs) [])
      → unwrap_or (if b then Some (item_keys x.1) else at_path q (map keys_of_list xs)) [] ≡ item_keys (unwrap_or (if b then Some x.1 else at_path q xs) [])
  by true h = refl
  by false h = h

module _ (app : App) (σ τ : Store) where
  abbrev olds : List (Path × List Item)
  olds = lists (draw app σ)

  -- what stood at a path
  old_is : (q : Path) (o : Option (List Item)) → at_path q olds ≡ o → (of_list q (rendered_items (draw app σ)) ≡ unwrap_or o []) × AreEntries q (unwrap_or o [])
  old_is q (Some is) e = let m = at_gives q olds is e in ((items_by_list app σ).0 (q, is) m, lists_are_entries app σ (q, is) m)
  old_is q None e = (none q None (draw app σ) (draw_listed app σ) (nowhere q) (at_none q olds e), ([], no_values, refl))

  plans_moved : (news : List (Path × List Item)) (plans : List (List Step)) → ((z : Path × List Item) → Among z news → Among z (lists (draw app τ))) → ArePlans (keyed_lists (draw app σ)) (map keys_of_list news) plans
      → moved_in (rendered_items (draw app σ)) (rendered_items (draw app τ)) (Firsts news) ≡ sum (map moves plans)
  plans_moved [] [] sub h = refl
  plans_moved (z ∷ zs) (s ∷ ss) sub h =
      let m = sub z (inl refl) in
      let was = unwrap_or (at_path z.0 olds) [] in
      let o = old_is z.0 (at_path z.0 olds) refl in
      let here = lists_moved z.0 was z.1 s h.0.0 o.1 (lists_are_entries app τ z m) (subst (λ ks. IsSync ks (item_keys z.1) s h.0.0) (keys_found z.0 olds) h.0.1) in
      let same = ap₂ moved_between o.0 ((items_by_list app τ).0 z m) in
      let rest = plans_moved zs ss (λ y n. sub y (inr n)) h.1 in
      let more : sum (map moves (s ∷ ss)) ≡ moves s + sum (map moves ss) = sum_by-cons (λ n. n) (moves s) (map moves ss) in omega (arith, here, same, rest, more)
  plans_moved [] (s ∷ ss) sub h = absurd h
  plans_moved (z ∷ zs) [] sub h = absurd h

pub moved_by_plans : MovedByPlans
moved_by_plans app σ τ sets plans h =
    moved_by_list (rendered_items (draw app σ)) (rendered_items (draw app τ)) (Firsts (lists (draw app τ))) (drawn_once app τ) (items_by_list app τ).1
    ∙ plans_moved app σ τ (lists (draw app τ)) plans (λ z m. m) h
