-- What holds of each position of some places and of its piece in a forest.
use Rattle.std.proofs.Common.{◌≡◌, ℕ, List, [], ◌∷◌, ◌++◌, Option, Some, None, refl, sym, ap, subst, inl, inr}
use Rattle.std.specs.Prelude.{filter_map}
use Rattle.gl_value.specs.Value.{Values, no_values, value}
use Rattle.gl_meaning.specs.Path.{Path}
use Rattle.gl_meaning.specs.Known.{Among}
use Rattle.gl_meaning.specs.Laws.{In}
use Rattle.gl_meaning.specs.Render as r
use Rattle.gl_meaning.specs.Render.{Forest, Piece, no_pieces, piece, single, join, forest_of, Block}
use Rattle.gl_meaning.proofs.Pieces.{among_either, filter_map_append, in_itself}
use Rattle.gl_meaning.proofs.Under.{in_left, in_right}
use Rattle.gl_plain.specs.Live.{Lives}
use Rattle.gl_plain.specs.Live
use Rattle.gl_plain.specs.Stands.{WhereValues, WhereBlock}
use Rattle.gl_turns.specs.Places.{Place, node_place, position_place, position_in, comment_places, places_in}

forest_join : (ps qs : List Piece) → forest_of (ps ++ qs) ≡ join (forest_of ps) (forest_of qs)
forest_join [] qs = refl
forest_join (p ∷ ps) qs = ap (piece p) (forest_join ps qs)

module _ (Q : Path × ℕ → Piece → Type 0) where
  -- each position of the places has a piece of the forest with which Q holds
  pub record Has (xs : List Place) (f : Forest) : Type 0 where
    pub each : (z : Path × ℕ) → Among z (filter_map position_in xs) → (x : Piece) × In x f × Q z x

  pub has_none : (f : Forest) → Has [] f
  has_none f = record { each = λ z m. absurd m }

  pub has_join : (xs ys : List Place) (f g : Forest) → Has xs f → Has ys g → Has (xs ++ ys) (join f g)
  has_join xs ys f g h k = record {
    each = λ z m. elim (among_either z (filter_map position_in xs) (filter_map position_in ys) (subst (Among z) (filter_map_append position_in xs ys) m)) [
      | inl a ↦ let w = h.each z a in (w.0, in_left w.0 f g w.1, w.2)
      | inr a ↦ let w = k.each z a in (w.0, in_right w.0 f g w.1, w.2)
    ];
  }

  pub has_branch : (xs : List Place) (p : Path) (f : Forest) → Has xs f → Has xs (single (r.branch p f))
  has_branch xs p f h = record { each = λ z m. let w = h.each z m in (w.0, inl (inr w.1), w.2) }

  pub has_position : (p : Path) (k : ℕ) (x : Piece) (xs : List Place) (f : Forest) → Q (p, k) x → Has xs f → Has (position_place p k ∷ xs) (piece x f)
  has_position p k x xs f q h = record { each = by } where
    by : (z : Path × ℕ) → Among z ((p, k) ∷ filter_map position_in xs) → (y : Piece) × In y (piece x f) × Q z y
    by z (inl e) = (x, inl (in_itself x), subst (λ y. Q y x) (sym e) q)
    by z (inr m) = let w = h.each z m in (w.0, inr w.1, w.2)

  comment_none : (z : Path × ℕ) (p : Path) (k : Option ℕ) → Among z (filter_map position_in (comment_places p k)) → ⊥
  comment_none z p None m = m
  comment_none z p (Some n) m = m

  pub has_arm : (xs : List Place) (p : Path) (k : Option ℕ) (f g : Forest) → Has xs f → Has (xs ++ comment_places p k) (join f g)
  has_arm xs p k f g h = has_join xs (comment_places p k) f g h (record { each = λ z m. absurd (comment_none z p k m) })

  pub has_element : (p : Path) (n : ℕ) (xs ys zs : List Place) (qs rs : List Piece) (el : Piece) (f : Forest) → ((x : Piece) → In x f → In x (single el))
      → Has xs (forest_of qs) → Has ys f → Has zs (forest_of rs) → Has (node_place p n ∷ (xs ++ (ys ++ zs))) (join (forest_of (qs ++ rs)) (single el))
  has_element p n xs ys zs qs rs el f inside ha hy hm =
      let parts = forest_of (qs ++ rs) in
      let front : (x : Piece) → In x (forest_of qs) → In x parts = (λ x i. subst (In x) (sym (forest_join qs rs)) (in_left x (forest_of qs) (forest_of rs) i)) in
      let back : (x : Piece) → In x (forest_of rs) → In x parts = (λ x i. subst (In x) (sym (forest_join qs rs)) (in_right x (forest_of qs) (forest_of rs) i)) in
      record {
        each = λ z m. elim (among_either z (filter_map position_in xs) (filter_map position_in (ys ++ zs)) (subst (Among z) (filter_map_append position_in xs (ys ++ zs)) m)) [
          | inl a ↦ let w = ha.each z a in (w.0, in_left w.0 parts (single el) (front w.0 w.1), w.2)
          | inr b ↦ elim (among_either z (filter_map position_in ys) (filter_map position_in zs) (subst (Among z) (filter_map_append position_in ys zs) b)) [
            | inl a ↦ let w = hy.each z a in (w.0, in_right w.0 parts (single el) (inside w.0 w.1), w.2)
            | inr a ↦ let w = hm.each z a in (w.0, in_left w.0 parts (single el) (back w.0 w.1), w.2)
          ]
        ];
      }

  -- an item, and those after it
  pub has_item : (xs ys : List Place) (x : Piece) (f g : Forest) → ((y : Piece) → In y f → In y (single x)) → Has xs f → Has ys g → Has (xs ++ ys) (piece x g)
  has_item xs ys x f g inside h k = record {
    each = λ z m. elim (among_either z (filter_map position_in xs) (filter_map position_in ys) (subst (Among z) (filter_map_append position_in xs ys) m)) [
      | inl a ↦ let w = h.each z a in (w.0, elim (inside w.0 w.1) [ inl i ↦ inl i | inr i ↦ absurd i ], w.2)
      | inr a ↦ let w = k.each z a in (w.0, inr w.1, w.2)
    ];
  }

  pub has_block : (q : Path) (o : Option Block) (P : Block → Type 0) (D : Block → Forest) (E : Option Block → Forest) (ls : Lives) → ((c : Block) → E (Some c) ≡ D c)
      → ((c : Block) → o ≡ Some c → P c → Has (places_in q 0 ls) (D c)) → WhereBlock o P (ls ≡ Live.no_lives) → Has (places_in q 0 ls) (E o)
  has_block q None P D E ls e g h = subst (λ (y : Lives). Has (places_in q 0 y) (E None)) (sym h) (has_none (E None))
  has_block q (Some c) P D E ls e g h = subst (Has (places_in q 0 ls)) (sym (e c)) (g c refl h)

pub where_list : (P : Values Path → Type 0) (us : Values Path) → WhereValues us P ⊥ → P us
where_list P no_values h = absurd h
where_list P (value v vs) h = h

pub where_else : (Q : Type 0) (us : Values Path) → WhereValues us (λ z. ⊥) Q → Q
where_else Q no_values h = h
where_else Q (value v vs) h = absurd h
