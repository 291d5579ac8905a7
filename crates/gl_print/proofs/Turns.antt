-- Print numbers a tree that stands for a rendering as the rendering is numbered.
use Rattle.std.proofs.Common.{◌≡◌, ◌≢◌, ℕ, ◌+◌, ◌<◌, ◌≤◌, ◌==◌, true, false, Bool, map, List, [], ◌∷◌, ◌++◌, Option, Some, None, refl, sym, ap, subst, ◌∙◌, inl, inr, arith, append-nil}
use Rattle.std.specs.Prelude.{if◌then◌else◌, unwrap_or, filter_map, ◌⊎◌}
use Rattle.std.proofs.lemmas.Bool.{cases_lt}
use Rattle.std.proofs.lemmas.List.{map-append}
use Rattle.std.proofs.lemmas.List.Elements.{filter_map-append}
use Rattle.gl_base.specs.Texts.{Text}
use Rattle.gl_arena.specs.Id.{Id, same_id}
use Rattle.gl_arena.proofs.Ids.{same_id-refl, same_id-true, id_cases}
use Rattle.gl_nodes.specs.Node.{Node}
use Rattle.gl_nodes.specs.Forest.{Forest, end, tree, joined, hit, times}
use Rattle.gl_nodes.specs.Tree.{Tree, node_at}
use Rattle.gl_nodes.specs.Flat.{same_stamp, stands, order, node_by, IsFlat}
use Rattle.gl_nodes.proofs.Counts.{hit-same, hit-other}
use Rattle.gl_nodes.proofs.Flats.{stamp-same, test-same, test-other}
use Rattle.gl_nodes.proofs.Orders.{order-bare}
use Rattle.gl_meaning.specs.Known.{Among}
use Rattle.gl_meaning.specs.Path.{Path, path_eq, at_path}
use Rattle.gl_meaning.specs.Changes as m
use Rattle.gl_meaning.specs.Changes.{node_path, pieces_in, pieces, nodes, number}
use Rattle.gl_meaning.specs.Numbering.{numbers_from}
use Rattle.gl_meaning.specs.Render as r
use Rattle.gl_meaning.specs.Render.{Piece, element_node, text_node, comment_node, component, branch, item_region, position, too_deep, no_pieces, piece}
use Rattle.gl_meaning.proofs.Equal.{path_means, path_itself}
use Rattle.gl_print.specs.Lines.{lines}
use Rattle.gl_print.specs.Numbers.{Numbers, at, ids}
use Rattle.gl_print.specs.Printing.{given, after}
use Rattle.gl_print.specs.Pieces.{stood, stood_piece, IsNamed, AreNamed, IsShown, AreShown, PrintsTurn}
use Rattle.gl_print.proofs.Givens.{numbers_from-of, numbers_from-next}
use Rattle.gl_print.proofs.Pieces.{tree-lines}

among-left : {A : Type 0} (x : A) (xs ys : List A) → Among x xs → Among x (xs ++ ys)
among-left x [] ys a = absurd a
among-left x (z ∷ zs) ys (inl e) = inl e
among-left x (z ∷ zs) ys (inr a) = inr (among-left x zs ys a)

among-right : {A : Type 0} (x : A) (xs ys : List A) → Among x ys → Among x (xs ++ ys)
among-right x [] ys a = a
among-right x (z ∷ zs) ys a = inr (among-right x zs ys a)

among-split : {A : Type 0} (x : A) (xs ys : List A) → Among x (xs ++ ys) → Among x xs ⊎ Among x ys
among-split x [] ys a = inr a
among-split x (z ∷ zs) ys (inl e) = inl (inl e)
among-split x (z ∷ zs) ys (inr a) = elim (among-split x zs ys a) [ inl l ↦ inl (inr l) | inr q ↦ inr q ]

-- Numbers by stamps, from n on.

stamps_of : (ℕ → Option ℕ) → ℕ → List ℕ → List (ℕ × ℕ)
stamps_of by n [] = []
stamps_of by n (s ∷ ss) = (s, given (by s) n) ∷ stamps_of by (after (by s) n) ss

stamps_next : (ℕ → Option ℕ) → ℕ → List ℕ → ℕ
stamps_next by n [] = n
stamps_next by n (s ∷ ss) = stamps_next by (after (by s) n) ss

look : ℕ → List (ℕ × ℕ) → Option ℕ
look s [] = None
look s (e ∷ es) = if s == e.0 then Some e.1 else look s es

count : ℕ → List ℕ → ℕ
count s [] = 0
count s (x ∷ xs) = same_stamp s x + count s xs

-- a way to number keys that have stamps
record Way (K : Type 0) (key : K → ℕ) : Type 0 where
  eq : K → K → Bool
  means : (x y : K) → eq x y ≡ true → x ≡ y
  itself : (x : K) → eq x x ≡ true
  old : K → Option ℕ
  find : K → List (K × ℕ) → Option ℕ
  finds : (x : K) (e : K × ℕ) (es : List (K × ℕ)) → find x (e ∷ es) ≡ (if eq x e.0 then Some e.1 else find x es)
  of : ℕ → List K → List (K × ℕ)
  of_more : (n : ℕ) (x : K) (xs : List K) → of n (x ∷ xs) ≡ (x, given (old x) n) ∷ of (after (old x) n) xs
  last : ℕ → List K → ℕ
  last_none : (n : ℕ) → last n [] ≡ n
  last_more : (n : ℕ) (x : K) (xs : List K) → last n (x ∷ xs) ≡ last (after (old x) n) xs

module _ {K : Type 0} (key : K → ℕ) (w : Way K key) (by : ℕ → Option ℕ) where
  counted : (x : K) (xs : List K) → Among x xs → 0 < count (key x) (map key xs)
  unfolding count
  counted x [] a = absurd a
  counted x (y ∷ ys) (inl e) = let one = stamp-same (key x) in let at = ap (λ z. same_stamp (key x) (key z)) (sym e) in omega (arith, one, at)
  counted x (y ∷ ys) (inr a) = let q = counted x ys a in omega (arith, q)

  last-stamps : (n : ℕ) (xs : List K) → ((y : K) → Among y xs → w.old y ≡ by (key y)) → stamps_next by n (map key xs) ≡ w.last n xs
  unfolding stamps_next
  last-stamps n [] same = sym (w.last_none n)
  last-stamps n (y ∷ ys) same =
      ap (λ o. stamps_next by (after o n) (map key ys)) (sym (same y (inl refl))) ∙ (last-stamps (after (w.old y) n) ys (λ z a. same z (inr a)) ∙ sym (w.last_more n y ys))

  looked : (n : ℕ) (xs : List K) (x : K) → Among x xs → ((y : K) → Among y xs → w.old y ≡ by (key y)) → ((s : ℕ) → count s (map key xs) ≤ 1)
      → look (key x) (stamps_of by n (map key xs)) ≡ w.find x (w.of n xs)
  unfolding stamps_of look count
  looked n [] x a same once = absurd a
  looked n (y ∷ ys) x a same once =
      by_test (w.eq x y) refl (λ b. looked (after (w.old y) n) ys x b (λ z c. same z (inr c)) (λ s. let o = once s in omega (arith, o)))
    where
      right : (b : Bool) → w.eq x y ≡ b → w.find x (w.of n (y ∷ ys)) ≡ (if b then Some (given (w.old y) n) else w.find x (w.of (after (w.old y) n) ys))
      right b e = ap (w.find x) (w.of_more n y ys) ∙ (w.finds x (y, given (w.old y) n) (w.of (after (w.old y) n) ys) ∙ ap (λ t. if t then Some (given (w.old y) n) else w.find x (w.of (after (w.old y) n) ys)) e)

      rest : w.eq x y ≡ false → Among x (y ∷ ys) → Among x ys
      rest e (inl q) = absurd (let no : true ≡ false = sym (ap (w.eq x) (sym q) ∙ w.itself x) ∙ e in cc)
      rest e (inr b) = b

      by_test : (b : Bool) → w.eq x y ≡ b → (Among x ys → look (key x) (stamps_of by (after (w.old y) n) (map key ys)) ≡ w.find x (w.of (after (w.old y) n) ys))
          → look (key x) ((key y, given (by (key y)) n) ∷ stamps_of by (after (by (key y)) n) (map key ys)) ≡ w.find x (w.of n (y ∷ ys))
      by_test true e rec =
          ap (λ b. if b then Some (given (by (key y)) n) else look (key x) (stamps_of by (after (by (key y)) n) (map key ys))) (test-same (key x) (key y) (ap key (w.means x y e)))
          ∙ (ap (λ o. Some (given o n)) (sym (same y (inl refl))) ∙ sym (right true e))
      by_test false e rec =
          let there = rest e a in
          let on = counted x ys there in
          let o = once (key x) in
          let ne : key x ≢ key y = λ q. let one = ap (same_stamp (key x)) (sym q) in let v = stamp-same (key x) in absurd (omega (arith, on, o, one, v)) in
          ap (λ b. if b then Some (given (by (key y)) n) else look (key x) (stamps_of by (after (by (key y)) n) (map key ys))) (test-other (key x) (key y) ne)
          ∙ (ap (λ o. look (key x) (stamps_of by (after o n) (map key ys))) (sym (same y (inl refl))) ∙ (rec there ∙ sym (right false e)))

-- The two ways.

id_way : (old : Id → Option ℕ) → Way Id (λ i. i.1)
id_way old = record {
  eq = same_id;
  means = same_id-true;
  itself = same_id-refl;
  old = old;
  find = at;
  finds = λ x e es. refl;
  of = λ n xs. (numbers_from old n xs).of;
  of_more = λ n x xs. numbers_from-of old n x xs;
  last = λ n xs. (numbers_from old n xs).next;
  last_none = λ n. refl;
  last_more = λ n x xs. numbers_from-next old n x xs;
}

path_way : (old : List (Path × ℕ)) (id_at : Path → Id) → Way Path (λ p. (id_at p).1)
path_way old id_at = record {
  eq = path_eq;
  means = path_means;
  itself = path_itself;
  old = λ p. at_path p old;
  find = at_path;
  finds = λ x e es. refl;
  of = λ n xs. (m.number_from old n xs).of;
  of_more = λ n x xs. numbers_from-of (λ p. at_path p old) n x xs;
  last = λ n xs. (m.number_from old n xs).next;
  last_none = λ n. refl;
  last_more = λ n x xs. numbers_from-next (λ p. at_path p old) n x xs;
}

-- Stamps in document order.

order-joined : (f g : Forest) → order (joined f g) ≡ order f ++ order g
order-joined end g = refl
order-joined (tree i k r) g = ap (λ l. i.1 ∷ l) (ap (λ l. order k ++ l) (order-joined r g) ∙ sym (append_three (order k) (order r) (order g)))
  where
    append_three : (a b c : List ℕ) → (a ++ b) ++ c ≡ a ++ (b ++ c)
    append_three [] b c = refl
    append_three (x ∷ xs) b c = ap (λ l. x ∷ l) (append_three xs b c)

order-ids : (f : Forest) → map (λ i. i.1) (ids f) ≡ order f
order-ids end = refl
order-ids (tree i k r) = ap (λ l. i.1 ∷ l) (map-append (λ i. i.1) (ids k) (ids r) ∙ (ap (λ l. l ++ map (λ i. i.1) (ids r)) (order-ids k) ∙ ap (λ l. order k ++ l) (order-ids r)))

count-append : (s : ℕ) (xs ys : List ℕ) → count s (xs ++ ys) ≡ count s xs + count s ys
unfolding count
count-append s [] ys = omega arith
count-append s (x ∷ xs) ys = let q = count-append s xs ys in omega (arith, q)

count-order : (s : ℕ) (f : Forest) → count s (order f) ≡ stands s f
unfolding count
count-order s end = refl
count-order s (tree i k r) = let a = count-append s (order k) (order r) in let b = count-order s k in let c = count-order s r in omega (arith, a, b, c)

-- the ids of a forest stand in it
among-times : (x : Id) (f : Forest) → Among x (ids f) → 0 < times x f
among-times x end a = absurd a
among-times x (tree i k r) (inl e) = let h = ap (hit x) (sym e) in let one = hit-same x in omega (arith, h, one)
among-times x (tree i k r) (inr a) = elim (among-split x (ids k) (ids r) a) [
  | inl q ↦ let on = among-times x k q in omega (arith, on)
  | inr q ↦ let on = among-times x r q in omega (arith, on)
]

times-among : (x : Id) (f : Forest) → 0 < times x f → Among x (ids f)
times-among x end lt = absurd (omega arith)
times-among x (tree i k r) lt = elim (id_cases x i) [
  | inl e ↦ inl e
  | inr ne ↦ elim (cases_lt 0 (times x k)) [
    | inl on ↦ inr (among-left x (ids k) (ids r) (times-among x k on))
    | inr off ↦ let z = hit-other x i ne in inr (among-right x (ids k) (ids r) (times-among x r (omega (arith, lt, off, z))))
  ]
]

module _ (id_at : Path → Id) where
  mutual
    order-piece : (q : Piece) → order (stood_piece id_at q) ≡ map (λ p. (id_at p).1) (filter_map node_path (pieces_in q))
    order-piece (element_node p t a m f) = ap (λ l. (id_at p).1 ∷ l) (append-nil (order (stood id_at f)) ∙ order-stood f)
    order-piece (text_node p t) = refl
    order-piece (comment_node p t) = refl
    order-piece (component p s f) = order-stood f
    order-piece (branch p f) = order-stood f
    order-piece (item_region p v i f) = order-stood f
    order-piece (position p ps) = refl
    order-piece (too_deep p) = refl

    order-stood : (f : r.Forest) → order (stood id_at f) ≡ map (λ p. (id_at p).1) (nodes f)
    order-stood no_pieces = refl
    order-stood (piece q f) =
        order-joined (stood_piece id_at q) (stood id_at f)
        ∙ (ap (λ l. l ++ order (stood id_at f)) (order-piece q) ∙ (ap (λ l. map (λ p. (id_at p).1) (filter_map node_path (pieces_in q)) ++ l) (order-stood f)
        ∙ (sym (map-append (λ p. (id_at p).1) (filter_map node_path (pieces_in q)) (nodes f)) ∙ ap (map (λ p. (id_at p).1)) (sym (filter_map-append node_path (pieces_in q) (pieces f))))))

  module _ (node : Id → Option Node) (num : Id → ℕ) (numbers : m.Numbers) where
    mutual
      piece_shown : (q : Piece) → IsNamed id_at node q → ((p : Path) → Among p (filter_map node_path (pieces_in q)) → num (id_at p) ≡ unwrap_or (at_path p numbers.of) 0) → IsShown id_at node num numbers q
      piece_shown (element_node p t a m f) h has = (h.0, has p (inl refl), forest_shown f h.1 (λ z b. has z (inr b)))
      piece_shown (text_node p t) h has = (h, has p (inl refl))
      piece_shown (comment_node p t) h has = (h, has p (inl refl))
      piece_shown (component p s f) h has = forest_shown f h has
      piece_shown (branch p f) h has = forest_shown f h has
      piece_shown (item_region p v i f) h has = forest_shown f h has
      piece_shown (position p ps) h has = tt
      piece_shown (too_deep p) h has = tt

      forest_shown : (f : r.Forest) → AreNamed id_at node f → ((p : Path) → Among p (nodes f) → num (id_at p) ≡ unwrap_or (at_path p numbers.of) 0) → AreShown id_at node num numbers f
      forest_shown no_pieces h has = tt
      forest_shown (piece q f) h has = (
        piece_shown q h.0 (λ z a. has z (subst (Among z) (sym (filter_map-append node_path (pieces_in q) (pieces f))) (among-left z (filter_map node_path (pieces_in q)) (nodes f) a))),
        forest_shown f h.1 (λ z a. has z (subst (Among z) (sym (filter_map-append node_path (pieces_in q) (pieces f))) (among-right z (filter_map node_path (pieces_in q)) (nodes f) a))),
      )

-- the law
pub prints-turn : (t : Tree) (old new : Numbers) (out : Text) → IsFlat t → out ≡ lines (node_at t) (λ i. unwrap_or (at i new.of) 0) [] t.forest
    → ((i : Id) → at i new.of ≡ at i (numbers_from (λ k. at k old.of) old.next (ids t.forest)).of) → new.next ≡ (numbers_from (λ k. at k old.of) old.next (ids t.forest)).next
    → PrintsTurn t old new out
unfolding id_way path_way
prints-turn t old new out flat text of_new next_new = λ by id_at ns ps was is named had same.
    let key : Path → ℕ = λ p. (id_at p).1 in
    let stamps : map (λ i. i.1) (ids t.forest) ≡ map key (nodes ps) = order-ids t.forest ∙ (sym (order-bare t.forest) ∙ (ap order is ∙ (order-bare (stood id_at ps) ∙ order-stood id_at ps))) in
    let once : (s : ℕ) → count s (map (λ i. i.1) (ids t.forest)) ≤ 1 = λ s. let a = ap (count s) (order-ids t.forest) in let b = count-order s t.forest in let o = flat.once s in omega (arith, a, b, o) in
    let once' : (s : ℕ) → count s (map key (nodes ps)) ≤ 1 = λ s. let a = once s in let b = ap (count s) stamps in omega (arith, a, b) in
    let of_id : (i : Id) → 0 < times i t.forest → at i new.of ≡ look i.1 (stamps_of by old.next (map key (nodes ps))) = λ i lt.
    of_new i ∙ (sym (looked (λ i. i.1) (id_way (λ k. at k old.of)) by old.next (ids t.forest) i (times-among i t.forest lt) (λ y a. was y (among-times y t.forest a)) once)
    ∙ ap (λ l. look i.1 (stamps_of by old.next l)) stamps) in
    let of_path : (p : Path) → Among p (nodes ps) → look (key p) (stamps_of by old.next (map key (nodes ps))) ≡ at_path p (number ns ps).of = λ p a.
    ap (λ n. look (key p) (stamps_of by n (map key (nodes ps)))) same ∙ looked key (path_way ns.of id_at) by ns.next (nodes ps) p a (λ y b. sym (had y b)) once' in
    record {
      lines = text ∙ tree-lines t (λ i. unwrap_or (at i new.of) 0) (λ s. unwrap_or (look s (stamps_of by old.next (map key (nodes ps)))) 0) id_at (number ns ps) ps flat
          (λ i lt. ap (λ o. unwrap_or o 0) (of_id i lt)) is
          (forest_shown id_at (λ i. node_by t i.1) (λ i. unwrap_or (look i.1 (stamps_of by old.next (map key (nodes ps)))) 0) (number ns ps) ps named (λ p a. ap (λ o. unwrap_or o 0) (of_path p a)));
      of = λ p i a lt e. of_id i lt ∙ (ap (λ s. look s (stamps_of by old.next (map key (nodes ps)))) e ∙ of_path p a);
      next = next_new ∙ (sym (last-stamps (λ i. i.1) (id_way (λ k. at k old.of)) by old.next (ids t.forest) (λ y a. was y (among-times y t.forest a)))
          ∙ (ap (stamps_next by old.next) stamps ∙ (ap (λ n. stamps_next by n (map key (nodes ps))) same ∙ last-stamps key (path_way ns.of id_at) by ns.next (nodes ps) (λ y b. sym (had y b)))));
    }
