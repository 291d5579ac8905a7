-- A node keeps its number, and no number is given twice.
use Rattle.std.proofs.Common.{◌≡◌, ◌≤◌, ◌<◌, ℕ, suc, List, [], ◌∷◌, Bool, true, false, true≢false, Option, Some, None, refl, sym, ap, ◌∙◌, subst, inl, inr, arith}
use Rattle.std.specs.Prelude.{if◌then◌else◌}
use Rattle.gl_meaning.specs.Path.{Path, path_eq, at_path}
use Rattle.gl_meaning.specs.Render.{Forest}
use Rattle.gl_meaning.specs.Changes.{nodes, Numbers, number_from, number}
use Rattle.gl_meaning.specs.Numbering.{number_one}
use Rattle.gl_meaning.specs.Known.{Among}
use Rattle.gl_meaning.specs.Laws.{ValidNumbers}
use Rattle.gl_meaning.proofs.Equal.{path_means, path_itself}
use Rattle.gl_meaning.proofs.Pieces.{some_same, none_some}

abbrev NumberOf : Path → List (Path × ℕ) → ℕ → Type 0
NumberOf i ns n = at_path i ns ≡ Some n

-- what is found first: the head, or what is behind it
data Found (i : Path) (p : Path) (m : ℕ) (rest : List (Path × ℕ)) (n : ℕ) : Type 0 where
  head_found : i ≡ p → n ≡ m → Found i p m rest n
  tail_found : path_eq i p ≡ false → NumberOf i rest n → Found i p m rest n

found : (i p : Path) (m : ℕ) (rest : List (Path × ℕ)) (n : ℕ) → NumberOf i ((p, m) ∷ rest) n → Found i p m rest n
found i p m rest n q = chosen (path_eq i p) refl q where
  chosen : (b : Bool) → path_eq i p ≡ b → (if b then Some m else at_path i rest) ≡ Some n → Found i p m rest n
  chosen true o k = head_found (path_means i p o) (sym (some_same m n k))
  chosen false o k = tail_found o k

module _ (old : List (Path × ℕ)) where
  abbrev numbered : ℕ → List Path → Numbers
  numbered next ps = number_from old next ps

  abbrev one : Option ℕ → ℕ → Path → List Path → Numbers
  one o next p ps = number_one o next p (λ n. number_from old n ps)

  module _ (p : Path) (ps : List Path) where
    grows-step : (o : Option ℕ) (next : ℕ) → ((m : ℕ) → m ≤ (numbered m ps).next) → next ≤ (one o next p ps).next
    grows-step (Some m) next h = h next
    grows-step None next h = let g : suc next ≤ (numbered (suc next) ps).next = h (suc next) in omega arith

  grows : (ps : List Path) (next : ℕ) → next ≤ (numbered next ps).next
  grows [] next = omega arith
  grows (p ∷ ps) next = grows-step p ps (at_path p old) next (λ m. grows ps m)

  -- where the number of a path comes from
  data Origin (i : Path) (ps : List Path) (next : ℕ) (n : ℕ) (end : ℕ) : Type 0 where
    kept : Among i ps → NumberOf i old n → Origin i ps next n end
    given : Among i ps → at_path i old ≡ None → next ≤ n → n < end → Origin i ps next n end

  later : (i p : Path) (ps : List Path) (next first n end : ℕ) → first ≤ next → Origin i ps next n end → Origin i (p ∷ ps) first n end
  later i p ps next first n end h (kept m q) = kept (inr m) q
  later i p ps next first n end h (given m q a b) = given (inr m) q (omega arith) b

  -- one path more, given the same of the paths behind it
  module _ (p : Path) (ps : List Path) (i : Path) (n : ℕ) where
    origin-step : (o : Option ℕ) → at_path p old ≡ o → (next : ℕ) → ((m : ℕ) → NumberOf i (numbered m ps).of n → Origin i ps m n (numbered m ps).next) → NumberOf i (one o next p ps).of n → Origin i (p ∷ ps) next n (one o next p ps).next
    origin-step (Some m) h next rest k = by (found i p m (numbered next ps).of n k) where
      by : Found i p m (numbered next ps).of n → Origin i (p ∷ ps) next n (numbered next ps).next
      by (head_found e f) = kept (inl e) (ap (λ z. at_path z old) e ∙ (h ∙ ap Some (sym f)))
      by (tail_found e f) = later i p ps next next n (numbered next ps).next (omega arith) (rest next f)
    origin-step None h next rest k = by (found i p next (numbered (suc next) ps).of n k) where
      by : Found i p next (numbered (suc next) ps).of n → Origin i (p ∷ ps) next n (numbered (suc next) ps).next
      by (head_found e f) = let g : suc next ≤ (numbered (suc next) ps).next = grows ps (suc next) in given (inl e) (ap (λ z. at_path z old) e ∙ h) (omega arith) (omega arith)
      by (tail_found e f) = later i p ps (suc next) next n (numbered (suc next) ps).next (omega arith) (rest (suc next) f)

  origin : (ps : List Path) (next : ℕ) (i : Path) (n : ℕ) → NumberOf i (numbered next ps).of n → Origin i ps next n (numbered next ps).next
  origin [] next i n q = absurd (none_some n q)
  origin (p ∷ ps) next i n q = origin-step p ps i n (at_path p old) refl next (λ m k. origin ps m i n k) q

  behind : (i p : Path) (ps : List Path) → Among i (p ∷ ps) → path_eq i p ≡ false → Among i ps
  behind i p ps (inl k) e = absurd (true≢false (sym (path_itself i) ∙ (ap (path_eq i) k ∙ e)))
  behind i p ps (inr k) e = k

  module _ (p : Path) (ps : List Path) (i : Path) where
    kept-step : (b : Bool) → path_eq i p ≡ b → (n next : ℕ) → Among i (p ∷ ps) → NumberOf i old n → ((m : ℕ) → Among i ps → NumberOf i (numbered m ps).of n) → NumberOf i (numbered next (p ∷ ps)).of n
    kept-step true e n next a q rest = subst (λ o. NumberOf i (one o next p ps).of n) (sym (ap (λ z. at_path z old) (sym (path_means i p e)) ∙ q)) (ap (λ b. if b then Some n else at_path i (numbered next ps).of) e)
    kept-step false e n next a q rest = by (at_path p old) where
      by : (o : Option ℕ) → NumberOf i (one o next p ps).of n
      by (Some m) = ap (λ b. if b then Some m else at_path i (numbered next ps).of) e ∙ rest next (behind i p ps a e)
      by None = ap (λ b. if b then Some next else at_path i (numbered (suc next) ps).of) e ∙ rest (suc next) (behind i p ps a e)

    given-step : (b : Bool) → path_eq i p ≡ b → (next : ℕ) → Among i (p ∷ ps) → at_path i old ≡ None → ((m : ℕ) → Among i ps → (n : ℕ) × (m ≤ n) × NumberOf i (numbered m ps).of n) → (n : ℕ) × (next ≤ n) × NumberOf i (numbered next (p ∷ ps)).of n
    given-step true e next a q rest = (next, omega arith, subst (λ o. NumberOf i (one o next p ps).of next) (sym (ap (λ z. at_path z old) (sym (path_means i p e)) ∙ q)) (ap (λ b. if b then Some next else at_path i (numbered (suc next) ps).of) e))
    given-step false e next a q rest = by (at_path p old) where
      by : (o : Option ℕ) → (n : ℕ) × (next ≤ n) × NumberOf i (one o next p ps).of n
      by (Some m) = let g = rest next (behind i p ps a e) in (g.0, g.1, ap (λ b. if b then Some m else at_path i (numbered next ps).of) e ∙ g.2)
      by None = let g = rest (suc next) (behind i p ps a e) in let h : suc next ≤ g.0 = g.1 in (g.0, omega arith, ap (λ b. if b then Some next else at_path i (numbered (suc next) ps).of) e ∙ g.2)

  kept-number : (ps : List Path) (next : ℕ) (i : Path) (n : ℕ) → Among i ps → NumberOf i old n → NumberOf i (numbered next ps).of n
  kept-number [] next i n m q = absurd m
  kept-number (p ∷ ps) next i n m q = kept-step p ps i (path_eq i p) refl n next m q (λ k a. kept-number ps k i n a q)

  given-number : (ps : List Path) (next : ℕ) (i : Path) → Among i ps → at_path i old ≡ None → (n : ℕ) × (next ≤ n) × NumberOf i (numbered next ps).of n
  given-number [] next i m q = absurd m
  given-number (p ∷ ps) next i m q = given-step p ps i (path_eq i p) refl next m q (λ k a. given-number ps k i a q)

  -- two new paths of one number are one
  module _ (p : Path) (ps : List Path) (i j : Path) (n : ℕ) (a : at_path i old ≡ None) (b : at_path j old ≡ None) where
    from-next : (next : ℕ) (k : Path) → at_path k old ≡ None → NumberOf k (numbered next ps).of n → next ≤ n
    from-next next k c o = by (origin ps next k n o) where
      by : Origin k ps next n (numbered next ps).next → next ≤ n
      by (kept m e) = absurd (none_some n (sym c ∙ e))
      by (given m e g h) = g

    same-step : (o : Option ℕ) → at_path p old ≡ o → (next : ℕ) → ((m : ℕ) → NumberOf i (numbered m ps).of n → NumberOf j (numbered m ps).of n → i ≡ j) → NumberOf i (one o next p ps).of n → NumberOf j (one o next p ps).of n → i ≡ j
    same-step (Some m) h next rest k l = by (found i p m (numbered next ps).of n k) (found j p m (numbered next ps).of n l) where
      by : Found i p m (numbered next ps).of n → Found j p m (numbered next ps).of n → i ≡ j
      by (head_found e f) g = absurd (none_some m (sym a ∙ (ap (λ z. at_path z old) e ∙ h)))
      by (tail_found e f) (head_found c d) = absurd (none_some m (sym b ∙ (ap (λ z. at_path z old) c ∙ h)))
      by (tail_found e f) (tail_found c d) = rest next f d
    same-step None h next rest k l = by (found i p next (numbered (suc next) ps).of n k) (found j p next (numbered (suc next) ps).of n l) where
      by : Found i p next (numbered (suc next) ps).of n → Found j p next (numbered (suc next) ps).of n → i ≡ j
      by (head_found e f) (head_found c d) = e ∙ sym c
      by (head_found e f) (tail_found c d) = let g : suc next ≤ n = from-next (suc next) j b d in absurd (omega arith)
      by (tail_found e f) (head_found c d) = let g : suc next ≤ n = from-next (suc next) i a f in absurd (omega arith)
      by (tail_found e f) (tail_found c d) = rest (suc next) f d

  new-same : (ps : List Path) (next : ℕ) (i j : Path) (n : ℕ) → at_path i old ≡ None → at_path j old ≡ None → NumberOf i (numbered next ps).of n → NumberOf j (numbered next ps).of n → i ≡ j
  new-same [] next i j n a b q r = absurd (none_some n q)
  new-same (p ∷ ps) next i j n a b q r = same-step p ps i j n a b (at_path p old) refl next (λ m k l. new-same ps m i j n a b k l) q r

pub number_is_kept : (ns : Numbers) (f : Forest) (i : Path) (n : ℕ) → Among i (nodes f) → at_path i ns.of ≡ Some n → at_path i (number ns f).of ≡ Some n
number_is_kept ns f i n m q = kept-number ns.of (nodes f) ns.next i n m q

pub others_are_numbered : (ns : Numbers) (f : Forest) (i : Path) → Among i (nodes f) → at_path i ns.of ≡ None → (n : ℕ) × (ns.next ≤ n) × (at_path i (number ns f).of ≡ Some n)
others_are_numbered ns f i m q = given-number ns.of (nodes f) ns.next i m q

pub nodes_are_numbered : (ns : Numbers) (f : Forest) (i : Path) (n : ℕ) → at_path i (number ns f).of ≡ Some n → Among i (nodes f)
nodes_are_numbered ns f i n q = by (origin ns.of (nodes f) ns.next i n q) where
  by : Origin ns.of i (nodes f) ns.next n (number ns f).next → Among i (nodes f)
  by (kept m e) = m
  by (given m e a b) = m

pub next_grows : (ns : Numbers) (f : Forest) → ns.next ≤ (number ns f).next
next_grows ns f = grows ns.of (nodes f) ns.next

-- where only the path i may have a number that is below the next one, this stays so
pub number_again : (ns : Numbers) (f : Forest) (i : Path) (n : ℕ) → n < ns.next → ((j : Path) → at_path j ns.of ≡ Some n → i ≡ j) → (j : Path) → at_path j (number ns f).of ≡ Some n → i ≡ j
number_again ns f i n h k j r = by (origin ns.of (nodes f) ns.next j n r) where
  by : Origin ns.of j (nodes f) ns.next n (number ns f).next → i ≡ j
  by (kept m e) = k j e
  by (given m e a b) = absurd (omega arith)

number-stays : (ns : Numbers) (f : Forest) → ValidNumbers ns → (i j : Path) (n : ℕ) → at_path i ns.of ≡ Some n → at_path j (number ns f).of ≡ Some n → i ≡ j
number-stays ns f v i j n q r = number_again ns f i n (v.0 i n q) (λ j k. v.1 i j n q k) j r

pub numbers_stay_valid : (ns : Numbers) (f : Forest) → ValidNumbers ns → ValidNumbers (number ns f)
numbers_stay_valid ns f v = (below, same) where
  below : (i : Path) (n : ℕ) → at_path i (number ns f).of ≡ Some n → n < (number ns f).next
  below i n q = by (origin ns.of (nodes f) ns.next i n q) where
    by : Origin ns.of i (nodes f) ns.next n (number ns f).next → n < (number ns f).next
    by (kept m e) = let g : n < ns.next = v.0 i n e in let h : ns.next ≤ (number ns f).next = next_grows ns f in omega arith
    by (given m e a b) = b

  same : (i j : Path) (n : ℕ) → at_path i (number ns f).of ≡ Some n → at_path j (number ns f).of ≡ Some n → i ≡ j
  same i j n q r = by (origin ns.of (nodes f) ns.next i n q) (origin ns.of (nodes f) ns.next j n r) where
    by : Origin ns.of i (nodes f) ns.next n (number ns f).next → Origin ns.of j (nodes f) ns.next n (number ns f).next → i ≡ j
    by (kept m e) o = number-stays ns f v i j n e r
    by (given m e a b) (kept k d) = sym (number-stays ns f v j i n d q)
    by (given m e a b) (given k d c g) = new-same ns.of (nodes f) ns.next i j n e d q r
