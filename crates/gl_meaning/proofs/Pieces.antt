-- The lists of what stands in a rendering, and the pieces that they are read from.
use Rattle.gl_meaning.specs.Laws.{InPiece, In}
use Rattle.gl_meaning.specs.Known.{Among}
use Rattle.std.proofs.Common.{◌≡◌, List, [], ◌∷◌, ◌++◌, Bool, true, false, true≢false, Option, Some, None, refl, sym, ap, ◌∙◌, subst, ◌⊎◌, inl, inr}
use Rattle.std.specs.Prelude.{filter_map, unwrap_or, ◌||◌}
use Rattle.std.specs.List.{cons_option, list_any}
use Rattle.gl_meaning.specs.Render
use Rattle.gl_meaning.specs.Changes

-- Lists

pub among_either : {A : Type 0} (i : A) (xs ys : List A) → Among i (xs ++ ys) → Among i xs ⊎ Among i ys
among_either i [] ys m = inr m
among_either i (x ∷ xs) ys (inl q) = inl (inl q)
among_either i (x ∷ xs) ys (inr m) = elim (among_either i xs ys m) [ inl k ↦ inl (inr k) | inr k ↦ inr k ]

pub among_left : {A : Type 0} (i : A) (xs ys : List A) → Among i xs → Among i (xs ++ ys)
among_left i [] ys m = absurd m
among_left i (x ∷ xs) ys (inl q) = inl q
among_left i (x ∷ xs) ys (inr m) = inr (among_left i xs ys m)

pub among_right : {A : Type 0} (i : A) (xs ys : List A) → Among i ys → Among i (xs ++ ys)
among_right i [] ys m = m
among_right i (x ∷ xs) ys m = inr (among_right i xs ys m)

cons-append : {A : Type 0} (m : Option A) (xs ys : List A) → cons_option m xs ++ ys ≡ cons_option m (xs ++ ys)
cons-append None xs ys = refl
cons-append (Some i) xs ys = refl

pub filter_map_append : {A B : Type 0} (g : A → Option B) (qs rs : List A) → filter_map g (qs ++ rs) ≡ filter_map g qs ++ filter_map g rs
filter_map_append g [] rs = refl
filter_map_append g (q ∷ qs) rs = ap (cons_option (g q)) (filter_map_append g qs rs) ∙ sym (cons-append (g q) (filter_map g qs) (filter_map g rs))

append-assoc : {A : Type 0} (xs ys zs : List A) → (xs ++ ys) ++ zs ≡ xs ++ (ys ++ zs)
append-assoc [] ys zs = refl
append-assoc (x ∷ xs) ys zs = ap (λ a. x ∷ a) (append-assoc xs ys zs)

pub some_same : {A : Type 0} (x y : A) → Some x ≡ Some y → x ≡ y
some_same x y q = ap (λ o. unwrap_or o x) q

pub none_some : {A : Type 0} (x : A) → None ≡ Some x → ⊥
none_some x q = cc

or-false : (a b : Bool) → (a || b) ≡ false → (a ≡ false) × (b ≡ false)
or-false false b q = (refl, q)
or-false true b q = absurd (true≢false q)

pub any_false : {A : Type 0} (test : A → Bool) (x : A) (xs : List A) → Among x xs → list_any test xs ≡ false → test x ≡ false
any_false test x [] m q = absurd m
any_false test x (y ∷ ys) (inl o) q = ap test o ∙ (or-false (test y) (list_any test ys) q).0
any_false test x (y ∷ ys) (inr m) q = any_false test x ys m (or-false (test y) (list_any test ys) q).1

or-right : (a b : Bool) → b ≡ true → (a || b) ≡ true
or-right true b q = refl
or-right false b q = q

pub any_true : {A : Type 0} (test : A → Bool) (x : A) (xs : List A) → Among x xs → test x ≡ true → list_any test xs ≡ true
any_true test x [] m q = absurd m
any_true test x (y ∷ ys) (inl o) q = ap (λ b. b || list_any test ys) (sym (ap test o) ∙ q)
any_true test x (y ∷ ys) (inr m) q = or-right (test y) (list_any test ys) (any_true test x ys m q)

-- Pieces

-- the forest in a piece
abbrev pub inner : Render.Piece → Render.Forest
inner (Render.element_node i n b m f) = f
inner (Render.component i w f) = f
inner (Render.branch i f) = f
inner (Render.item_region i v n f) = f
inner _ = Render.no_pieces

pub pieces_inner : (q : Render.Piece) → Changes.pieces_in q ≡ q ∷ Changes.pieces (inner q)
pieces_inner (Render.element_node i n b m f) = refl
pieces_inner (Render.component i w f) = refl
pieces_inner (Render.branch i f) = refl
pieces_inner (Render.item_region i v n f) = refl
pieces_inner (Render.text_node i z) = refl
pieces_inner (Render.comment_node i z) = refl
pieces_inner (Render.position i vs) = refl
pieces_inner (Render.too_deep i) = refl

pub in_itself : (q : Render.Piece) → InPiece q q
in_itself (Render.element_node i n b m f) = inl refl
in_itself (Render.component i w f) = inl refl
in_itself (Render.branch i f) = inl refl
in_itself (Render.item_region i v n f) = inl refl
in_itself (Render.text_node i z) = refl
in_itself (Render.comment_node i z) = refl
in_itself (Render.position i vs) = refl
in_itself (Render.too_deep i) = refl

pub in_inner : (x q : Render.Piece) → In x (inner q) → InPiece x q
in_inner x (Render.element_node i n b m f) h = inr h
in_inner x (Render.component i w f) h = inr h
in_inner x (Render.branch i f) h = inr h
in_inner x (Render.item_region i v n f) h = inr h
in_inner x (Render.text_node i z) h = absurd h
in_inner x (Render.comment_node i z) h = absurd h
in_inner x (Render.position i vs) h = absurd h
in_inner x (Render.too_deep i) h = absurd h

pub pieces_join : (f g : Render.Forest) → Changes.pieces (Render.join f g) ≡ Changes.pieces f ++ Changes.pieces g
pieces_join Render.no_pieces g = refl
pieces_join (Render.piece q f) g = ap (λ x. Changes.pieces_in q ++ x) (pieces_join f g) ∙ sym (append-assoc (Changes.pieces_in q) (Changes.pieces f) (Changes.pieces g))

inner-in : (x q : Render.Piece) → InPiece x q → (x ≡ q) ⊎ In x (inner q)
inner-in x (Render.element_node i n b m f) h = h
inner-in x (Render.component i w f) h = h
inner-in x (Render.branch i f) h = h
inner-in x (Render.item_region i v n f) h = h
inner-in x (Render.text_node i z) h = inl h
inner-in x (Render.comment_node i z) h = inl h
inner-in x (Render.position i vs) h = inl h
inner-in x (Render.too_deep i) h = inl h

-- Lists of what some pieces have

module _ {A : Type 0} (g : Render.Piece → Option A) where
  among-first : (a : A) (o : Option A) (js : List A) → Among a (cons_option o js) → (o ≡ Some a) ⊎ Among a js
  among-first a None js m = inr m
  among-first a (Some b) js (inl q) = inl (ap Some (sym q))
  among-first a (Some b) js (inr m) = inr m

  through : (a : A) (q : Render.Piece) → (Among a (filter_map g (Changes.pieces (inner q))) → (x : Render.Piece) × In x (inner q) × (g x ≡ Some a)) → Among a (filter_map g (Changes.pieces_in q)) → (x : Render.Piece) × InPiece x q × (g x ≡ Some a)
  through a q h m = elim (among-first a (g q) (filter_map g (Changes.pieces (inner q))) (subst (λ z. Among a (filter_map g z)) (pieces_inner q) m)) [
    | inl o ↦ (q, in_itself q, o)
    | inr n ↦ let x = h n in (x.0, in_inner x.0 q x.1, x.2)
  ]

  -- what stands in the list is of a piece
  mutual
    pub found_in_piece : (a : A) (q : Render.Piece) → Among a (filter_map g (Changes.pieces_in q)) → (x : Render.Piece) × InPiece x q × (g x ≡ Some a)
    found_in_piece a (Render.element_node j n b m f) h = through a (Render.element_node j n b m f) (found_in a f) h
    found_in_piece a (Render.component j w f) h = through a (Render.component j w f) (found_in a f) h
    found_in_piece a (Render.branch j f) h = through a (Render.branch j f) (found_in a f) h
    found_in_piece a (Render.item_region j v n f) h = through a (Render.item_region j v n f) (found_in a f) h
    found_in_piece a (Render.text_node j z) h = through a (Render.text_node j z) (λ n. absurd n) h
    found_in_piece a (Render.comment_node j z) h = through a (Render.comment_node j z) (λ n. absurd n) h
    found_in_piece a (Render.position j vs) h = through a (Render.position j vs) (λ n. absurd n) h
    found_in_piece a (Render.too_deep j) h = through a (Render.too_deep j) (λ n. absurd n) h

    pub found_in : (a : A) (f : Render.Forest) → Among a (filter_map g (Changes.pieces f)) → (x : Render.Piece) × In x f × (g x ≡ Some a)
    found_in a Render.no_pieces h = absurd h
    found_in a (Render.piece q f) h = elim (among_either a (filter_map g (Changes.pieces_in q)) (filter_map g (Changes.pieces f)) (subst (λ z. Among a z) (filter_map_append g (Changes.pieces_in q) (Changes.pieces f)) h)) [
      | inl m ↦ let x = found_in_piece a q m in (x.0, inl x.1, x.2)
      | inr m ↦ let x = found_in a f m in (x.0, inr x.1, x.2)
    ]

  among-option : (a : A) (o : Option A) (js : List A) → o ≡ Some a → Among a (cons_option o js)
  among-option a None js q = absurd (none_some a q)
  among-option a (Some b) js q = inl (sym (some_same b a q))

  among-later : (a : A) (o : Option A) (js : List A) → Among a js → Among a (cons_option o js)
  among-later a None js m = m
  among-later a (Some b) js m = inr m

  over : (a : A) (x q : Render.Piece) → g x ≡ Some a → (In x (inner q) → Among a (filter_map g (Changes.pieces (inner q)))) → InPiece x q → Among a (filter_map g (Changes.pieces_in q))
  over a x q o h m = subst (λ z. Among a (filter_map g z)) (sym (pieces_inner q)) (elim (inner-in x q m) [
    | inl e ↦ among-option a (g q) (filter_map g (Changes.pieces (inner q))) (sym (ap g e) ∙ o)
    | inr n ↦ among-later a (g q) (filter_map g (Changes.pieces (inner q))) (h n)
  ])

  -- what a piece has stands in the list
  mutual
    listed-piece : (a : A) (x : Render.Piece) → g x ≡ Some a → (q : Render.Piece) → InPiece x q → Among a (filter_map g (Changes.pieces_in q))
    listed-piece a x o (Render.element_node j n b m f) h = over a x (Render.element_node j n b m f) o (listed a x o f) h
    listed-piece a x o (Render.component j w f) h = over a x (Render.component j w f) o (listed a x o f) h
    listed-piece a x o (Render.branch j f) h = over a x (Render.branch j f) o (listed a x o f) h
    listed-piece a x o (Render.item_region j v n f) h = over a x (Render.item_region j v n f) o (listed a x o f) h
    listed-piece a x o (Render.text_node j z) h = over a x (Render.text_node j z) o (λ n. absurd n) h
    listed-piece a x o (Render.comment_node j z) h = over a x (Render.comment_node j z) o (λ n. absurd n) h
    listed-piece a x o (Render.position j vs) h = over a x (Render.position j vs) o (λ n. absurd n) h
    listed-piece a x o (Render.too_deep j) h = over a x (Render.too_deep j) o (λ n. absurd n) h

    pub listed : (a : A) (x : Render.Piece) → g x ≡ Some a → (f : Render.Forest) → In x f → Among a (filter_map g (Changes.pieces f))
    listed a x o Render.no_pieces h = absurd h
    listed a x o (Render.piece q f) h = subst (λ z. Among a z) (sym (filter_map_append g (Changes.pieces_in q) (Changes.pieces f))) (elim h [
      | inl m ↦ among_left a (filter_map g (Changes.pieces_in q)) (filter_map g (Changes.pieces f)) (listed-piece a x o q m)
      | inr m ↦ among_right a (filter_map g (Changes.pieces_in q)) (filter_map g (Changes.pieces f)) (listed a x o f m)
    ])
