-- Where the words and entries of a piece stand in a program: from one place up to another.
use Rattle.std.proofs.Common.{◌≡◌, ℕ, zero, suc, ◌+◌, ℤ, List, [], ◌∷◌, ◌++◌, Option, Some, None, length, slice_get, is_some, true, refl, sym, ap, subst, ◌∙◌, arith, length-append, append_assoc}
use Rattle.gl_base.specs.Texts.{Text}
use Rattle.gl_ops.specs.declared.op.Op.{Op}
use Rattle.gl_ops.specs.declared.op.Op.TheVariants as op
use Rattle.gl_wire.specs.Symbols.{place_of}
use Rattle.gl_program.specs.Program.{Program, op_at, Stands, HasText, HasName, HasInt}
use Rattle.gl_opc.specs.Piece.{Code, ◌⊕◌, Place, after, Piece, nothing, ◌⨾◌, one_op, op_piece, missing, text_entry, name_entry, with_text, with_name, with_int, text_op, name_op, int_op, op_where, op_if, next, skipping, forked}
use Rattle.gl_opc.proofs.Pools.{held}

-- Lists in lists

-- a list stands in another from a place on, where `get` reads the other one
abbrev pub StandsIn : {A : Type 0} → (ℕ → Option A) → ℕ → List A → Type 0
StandsIn {A} get from xs = (i : ℕ) (a : A) → slice_get xs i ≡ Some a → get (from + i) ≡ Some a

in_front : {A : Type 0} (xs ys : List A) (i : ℕ) (a : A) → slice_get xs i ≡ Some a → slice_get (xs ++ ys) i ≡ Some a
in_front [] ys i a h = cc
in_front (x ∷ xs) ys zero a h = h
in_front (x ∷ xs) ys (suc i) a h = in_front xs ys i a h

behind : {A : Type 0} (xs ys : List A) (i j : ℕ) → j ≡ length xs + i → slice_get (xs ++ ys) j ≡ slice_get ys i
behind [] ys i j e = let same : j ≡ i = omega arith in ap (λ k. slice_get ys k) same
behind (x ∷ xs) ys i zero e = absurd (omega arith)
behind (x ∷ xs) ys i (suc j) e = behind xs ys i j (omega arith)

stands_front : {A : Type 0} (get : ℕ → Option A) (from : ℕ) (xs ys : List A) → StandsIn get from (xs ++ ys) → StandsIn get from xs
stands_front get from xs ys h i a e = h i a (in_front xs ys i a e)

stands_back : {A : Type 0} (get : ℕ → Option A) (from : ℕ) (xs ys : List A) → StandsIn get from (xs ++ ys) → StandsIn get (from + length xs) ys
stands_back get from xs ys h i a e =
    let same : from + length xs + i ≡ from + (length xs + i) = omega arith in
    ap get same ∙ h (length xs + i) a (behind xs ys i (length xs + i) refl ∙ e)

stands_first : {A : Type 0} (get : ℕ → Option A) (from : ℕ) (x : A) → StandsIn get from (x ∷ []) → get from ≡ Some x
stands_first get from x h = let same : from ≡ from + 0 = omega arith in ap get same ∙ h 0 x refl

-- a list with more at its end, from its front on
joined_front : {A : Type 0} (get : ℕ → Option A) (before xs ys : List A) → StandsIn get 0 (before ++ (xs ++ ys)) → StandsIn get 0 (before ++ xs)
joined_front get before xs ys h = stands_front get 0 (before ++ xs) ys (subst (λ l. StandsIn get 0 l) (sym (append_assoc before xs ys)) h)

joined_back : {A : Type 0} (get : ℕ → Option A) (before xs ys : List A) → StandsIn get 0 (before ++ (xs ++ ys)) → StandsIn get 0 ((before ++ xs) ++ ys)
joined_back get before xs ys h = subst (λ l. StandsIn get 0 l) (sym (append_assoc before xs ys)) h

-- a text stands at its place of a pool with what was missing
stands_held : (get : ℕ → Option Text) (pool : List Text) (t : Text) → StandsIn get 0 (pool ++ missing pool t) → get (place_of pool t) ≡ Some t
stands_held get pool t h = let same : place_of pool t ≡ 0 + place_of pool t = omega arith in ap get same ∙ h (place_of pool t) t (held pool t)

-- Places

place : ℕ → List Text → List Text → ℕ → Place
place a t n i = record { address = a; texts = t; names = n; integer = i }

same_place : (a b i j : ℕ) (t u n o : List Text) → a ≡ b → t ≡ u → n ≡ o → i ≡ j → place a t n i ≡ place b u o j
same_place a b i j t u n o e f g h = rw (e, f, g, h) refl

behind_both : {A : Type 0} (from : ℕ) (xs ys : List A) → from + length (xs ++ ys) ≡ from + length xs + length ys
behind_both from xs ys = omega (arith, length-append xs ys)

-- behind both codes is behind the second one where it begins behind the first one
after_both : (at : Place) (x y : Code) → after at (x ⊕ y) ≡ after (after at x) y
unfolding place
after_both at x y =
    same_place _ _ _ _ _ _ _ _ (behind_both at.address x.ops y.ops) (sym (append_assoc at.texts x.texts y.texts)) (sym (append_assoc at.names x.names y.names))
    (behind_both at.integer x.ints y.ints)

-- Codes and pieces in programs

module _ (p : Program) where
  -- the words and integers of a code stand in the program from a place on, and its texts and names in the pools behind those of the place
  abbrev pub Has : Place → Code → Type 0
  Has at x =
      StandsIn (op_at p) at.address x.ops × StandsIn (slice_get p.texts) 0 (at.texts ++ x.texts)
      × StandsIn (slice_get p.names) 0 (at.names ++ x.names) × StandsIn (slice_get p.ints) at.integer x.ints

  has_front : (at : Place) (x y : Code) → Has at (x ⊕ y) → Has at x
  has_front at x y h = (
    stands_front (op_at p) at.address x.ops y.ops h.0,
    joined_front (slice_get p.texts) at.texts x.texts y.texts h.1,
    joined_front (slice_get p.names) at.names x.names y.names h.2,
    stands_front (slice_get p.ints) at.integer x.ints y.ints h.3,
  )

  has_back : (at : Place) (x y : Code) → Has at (x ⊕ y) → Has (after at x) y
  has_back at x y h = (
    stands_back (op_at p) at.address x.ops y.ops h.0,
    joined_back (slice_get p.texts) at.texts x.texts y.texts h.1,
    joined_back (slice_get p.names) at.names x.names y.names h.2,
    stands_back (slice_get p.ints) at.integer x.ints y.ints h.3,
  )

  -- a piece stands in the program, from a place up to another
  abbrev pub From : Place → Piece → Place → Type 0
  From at f to = Has at (f at) × (after at (f at) ≡ to)

  pub in_turn : (at to : Place) (f g : Piece) → From at (f ⨾ g) to → (mid : Place) × From at f mid × From mid g to
  in_turn at to f g h =
      let x = f at in
      let y = g (after at x) in
      (after at x, (has_front at x y h.0, refl), (has_back at x y h.0, sym (after_both at x y) ∙ h.1))

  address_of : (at to : Place) → at ≡ to → at.address ≡ to.address
  address_of at to e = ap (λ (q : Place). q.address) e

  pub none : (at to : Place) → From at nothing to → at.address ≡ to.address
  none at to h = let e = address_of (after at (nothing at)) to h.1 in omega (arith, e)

  stands_one : (at to : Place) (o : Op) → Has at (one_op o) → after at (one_op o) ≡ to → Stands p at.address o to.address
  stands_one at to o h e = let e = address_of (after at (one_op o)) to e in (stands_first (op_at p) at.address o h.0, omega (arith, e))

  pub one : (at to : Place) (o : Op) → From at (op_piece o) to → Stands p at.address o to.address
  one at to o h = stands_one at to o h.0 h.1

  -- entries of pools; the words begin where the piece begins
  pub text_first : (at to : Place) (s : Text) (f : ℕ → Piece) → From at (with_text s f) to
      → (t : ℕ) × (mid : Place) × HasText p t s × (mid.address ≡ at.address) × From mid (f t) to
  text_first at to s f h =
      let x = text_entry s at in
      let t = place_of at.texts s in
      let y = f t (after at x) in
      (t, after at x, stands_held (slice_get p.texts) at.texts s (has_front at x y h.0).1, omega arith, (has_back at x y h.0, sym (after_both at x y) ∙ h.1))

  pub name_first : (at to : Place) (n : Text) (f : ℕ → Piece) → From at (with_name n f) to
      → (a : ℕ) × (mid : Place) × HasName p a n × (mid.address ≡ at.address) × From mid (f a) to
  name_first at to n f h =
      let x = name_entry n at in
      let a = place_of at.names n in
      let y = f a (after at x) in
      (a, after at x, stands_held (slice_get p.names) at.names n (has_front at x y h.0).2, omega arith, (has_back at x y h.0, sym (after_both at x y) ∙ h.1))

  pub int_first : (at to : Place) (z : ℤ) (f : ℕ → Piece) → From at (with_int z f) to
      → (i : ℕ) × (mid : Place) × HasInt p i z × (mid.address ≡ at.address) × From mid (f i) to
  int_first at to z f h =
      let x : Code = record { ops = []; texts = []; names = []; ints = z ∷ [] } in
      let y = f at.integer (after at x) in
      (at.integer, after at x, stands_first (slice_get p.ints) at.integer z (has_front at x y h.0).3, omega arith, (has_back at x y h.0, sym (after_both at x y) ∙ h.1))

  pub at_address : (i j to : ℕ) (o : Op) → i ≡ j → Stands p i o to → Stands p j o to
  at_address i j to o e h = subst (λ k. Stands p k o to) e h

  pub text_one : (at to : Place) (kind : ℕ → Op) (s : Text) → From at (text_op kind s) to → (t : ℕ) × HasText p t s × Stands p at.address (kind t) to.address
  text_one at to kind s h =
      let g = text_first at to s (λ t. op_piece (kind t)) h in
      (g.0, g.2, at_address _ _ _ _ g.3 (one g.1 to (kind g.0) g.4))

  pub name_one : (at to : Place) (kind : ℕ → Op) (n : Text) → From at (name_op kind n) to → (a : ℕ) × HasName p a n × Stands p at.address (kind a) to.address
  name_one at to kind n h =
      let g = name_first at to n (λ a. op_piece (kind a)) h in
      (g.0, g.2, at_address _ _ _ _ g.3 (one g.1 to (kind g.0) g.4))

  pub int_one : (at to : Place) (kind : ℕ → Op) (z : ℤ) → From at (int_op kind z) to → (i : ℕ) × HasInt p i z × Stands p at.address (kind i) to.address
  int_one at to kind z h =
      let g = int_first at to z (λ i. op_piece (kind i)) h in
      (g.0, g.2, at_address _ _ _ _ g.3 (one g.1 to (kind g.0) g.4))

  pub number_one : (at to : Place) (kind : ℕ → Op) (o : Option ℕ) → is_some o ≡ true → From at (op_where kind o) to
      → (k : ℕ) × (o ≡ Some k) × Stands p at.address (kind k) to.address
  number_one at to kind None e h = cc
  number_one at to kind (Some k) e h = (k, refl, one at to (kind k) h)

  pub op_one : (at to : Place) (o : Option Op) → is_some o ≡ true → From at (op_if o) to → (head : Op) × (o ≡ Some head) × Stands p at.address head to.address
  op_one at to None e h = cc
  op_one at to (Some head) e h = (head, refl, one at to head h)

  -- Jumps

  jump_to : (at : Place) (kind : ℕ → Op) (i j : ℕ) (to : ℕ) → i ≡ j → Stands p at.address (kind i) to → Stands p at.address (kind j) to
  jump_to at kind i j to e h = subst (λ k. Stands p at.address (kind k) to) e h

  -- an opcode that has the address behind the piece after it
  pub skips : (at to : Place) (kind : ℕ → Op) (f : Piece) → From at (skipping kind f) to
      → (mid : Place) × Stands p at.address (kind to.address) mid.address × From mid f to
  skips at to kind f h =
      let first = next at in
      let x = f first in
      let head = one_op (kind (after first x).address) in
      let ends : after first x ≡ to = sym (after_both at head x) ∙ h.1 in
      (first, jump_to at kind _ _ _ (address_of (after first x) to ends) (stands_one at first _ (has_front at head x h.0) refl), (has_back at head x h.0, ends))

  -- two branches, where the first one ends with a jump behind the second one
  pub forks : (at to : Place) (kind : ℕ → Op) (f g : Piece) → From at (forked kind f g) to
      → (first jump second : Place) × Stands p at.address (kind second.address) first.address × From first f jump
      × Stands p jump.address (op.Else to.address) second.address × From second g to
  forks at to kind f g h =
      let first = next at in
      let x = f first in
      let jump = after first x in
      let second = next jump in
      let y = g second in
      let head = one_op (kind second.address) in
      let other = one_op (op.Else (after second y).address) in
      let rest = has_back at head (x ⊕ (other ⊕ y)) h.0 in
      let last = has_back first x (other ⊕ y) rest in
      let ends : after second y ≡ to =
      sym (after_both jump other y) ∙ (sym (after_both first x (other ⊕ y)) ∙ (sym (after_both at head (x ⊕ (other ⊕ y))) ∙ h.1)) in (
        first,
        jump,
        second,
        stands_one at first _ (has_front at head (x ⊕ (other ⊕ y)) h.0) refl,
        (has_front first x (other ⊕ y) rest, refl),
        jump_to jump (λ k. op.Else k) _ _ _ (address_of (after second y) to ends) (stands_one jump second _ (has_front jump other y last) refl),
        (has_back jump other y last, ends),
      )
