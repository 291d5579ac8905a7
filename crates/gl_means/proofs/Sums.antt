-- What each position of a tree that stands read last is what the rendering's position at its path reads.
use Rattle.std.proofs.Common.{◌≡◌, ◌+◌, ◌<◌, ℕ, List, [], ◌∷◌, map, Bool, true, false, true≢false, Option, refl, sym, ap, ap₂, ◌∙◌, subst, arith, inl, inr}
use Rattle.std.specs.Prelude.{◌&&◌, not}
use Rattle.gl_meaning.specs.Path.{Path, path_eq}
use Rattle.gl_meaning.specs.Scope.{Source, sources_of}
use Rattle.gl_meaning.specs.Known.{Among}
use Rattle.gl_meaning.specs.Laws.{NoRepeat}
use Rattle.gl_meaning.specs.Changes.{Position}
use Rattle.gl_meaning.proofs.Equal.{path_means, path_itself, both_left, both_right}
use Rattle.gl_plain.specs.Ids.{Id, ref}
use Rattle.gl_plain.specs.State.{any_of, Thing}
use Rattle.gl_plain.specs.Renew.{last_of}
use Rattle.gl_turns.proofs.Agrees.{kept_sum, read_sum}
use Rattle.gl_turns.proofs.Evaluated.{one_if, Test, counts}
use Rattle.gl_turns.proofs.Found.{among_mapped}

-- two positions of one path are one
pub same_position : (o y : Position) (qs : List Position) → NoRepeat (map (λ (q : Position). q.path) qs) → Among o qs → Among y qs → o.path ≡ y.path → o ≡ y
same_position o y [] d m n e = absurd m
same_position o y (q ∷ qs) d (inl a) (inl b) e = a ∙ sym b
same_position o y (q ∷ qs) d (inl a) (inr b) e = absurd (d.0 (subst (λ p. Among p (map (λ (q : Position). q.path) qs)) (sym e ∙ ap (λ (q : Position). q.path) a) (among_mapped (λ (q : Position). q.path) y qs b)))
same_position o y (q ∷ qs) d (inr a) (inl b) e = absurd (d.0 (subst (λ p. Among p (map (λ (q : Position). q.path) qs)) (e ∙ ap (λ (q : Position). q.path) b) (among_mapped (λ (q : Position). q.path) o qs a)))
same_position o y (q ∷ qs) d (inr a) (inr b) e = same_position o y qs d.1 a b e

-- both are the same
abbrev alike : Bool → Bool → Bool
alike true c = c
alike false c = not c

alike_itself : (b : Bool) → alike b b ≡ true
alike_itself true = refl
alike_itself false = refl

alike_means : (b c : Bool) → alike b c ≡ true → b ≡ c
alike_means true c e = sym e
alike_means false false e = refl
alike_means false true e = absurd (true≢false (sym e))

module _ (look : Id → Option Thing) (test : Test) where
  kept_has : (z : Path × ℕ) (zs : List (Path × ℕ)) → Among z zs → test z.0 (last_of (look (ref z.1))) ≡ true → 0 < kept_sum look (counts test) zs
  kept_has z [] m e = absurd m
  kept_has z (y ∷ ys) (inl q) e = let h : one_if (test y.0 (last_of (look (ref y.1)))) ≡ 1 = ap one_if (subst (λ (u : Path × ℕ). test u.0 (last_of (look (ref u.1))) ≡ true) q e) in omega (arith, h)
  kept_has z (y ∷ ys) (inr m) e = let h = kept_has z ys m e in omega (arith, h)

  kept_from : (zs : List (Path × ℕ)) → 0 < kept_sum look (counts test) zs → (z : Path × ℕ) × Among z zs × (test z.0 (last_of (look (ref z.1))) ≡ true)
  kept_from [] w = absurd (omega (arith, w))
  kept_from (y ∷ ys) w = by (test y.0 (last_of (look (ref y.1)))) refl (kept_from ys) w where
    by : (b : Bool) → test y.0 (last_of (look (ref y.1))) ≡ b → (0 < kept_sum look (counts test) ys → (z : Path × ℕ) × Among z ys × (test z.0 (last_of (look (ref z.1))) ≡ true)) → 0 < one_if b + kept_sum look (counts test) ys
        → (z : Path × ℕ) × Among z (y ∷ ys) × (test z.0 (last_of (look (ref z.1))) ≡ true)
    by true f rec u = (y, inl refl, f)
    by false f rec u = let h = rec (omega (arith, u)) in (h.0, inr h.1, h.2)

module _ (test : Test) where
  read_has : (o : Position) (qs : List Position) → Among o qs → test o.path (any_of (sources_of o.pairs)) ≡ true → 0 < read_sum (counts test) qs
  read_has o [] m e = absurd m
  read_has o (y ∷ ys) (inl q) e = let h : one_if (test y.path (any_of (sources_of y.pairs))) ≡ 1 = ap one_if (subst (λ (u : Position). test u.path (any_of (sources_of u.pairs)) ≡ true) q e) in omega (arith, h)
  read_has o (y ∷ ys) (inr m) e = let h = read_has o ys m e in omega (arith, h)

  read_from : (qs : List Position) → 0 < read_sum (counts test) qs → (o : Position) × Among o qs × (test o.path (any_of (sources_of o.pairs)) ≡ true)
  read_from [] w = absurd (omega (arith, w))
  read_from (y ∷ ys) w = by (test y.path (any_of (sources_of y.pairs))) refl (read_from ys) w where
    by : (b : Bool) → test y.path (any_of (sources_of y.pairs)) ≡ b → (0 < read_sum (counts test) ys → (o : Position) × Among o ys × (test o.path (any_of (sources_of o.pairs)) ≡ true)) → 0 < one_if b + read_sum (counts test) ys
        → (o : Position) × Among o (y ∷ ys) × (test o.path (any_of (sources_of o.pairs)) ≡ true)
    by true f rec u = (y, inl refl, f)
    by false f rec u = let h = rec (omega (arith, u)) in (h.0, inr h.1, h.2)

-- Where all sums agree, the positions with numbers are those with Pairs.
module _ (look : Id → Option Thing) (zs : List (Path × ℕ)) (qs : List Position) (once : NoRepeat (map (λ (q : Position). q.path) qs)) (sums : (test : Test) → kept_sum look (counts test) zs ≡ read_sum (counts test) qs) where
  abbrev at_path : Path → Test
  at_path p q k = path_eq p q

  pub is_read : (z : Path × ℕ) → Among z zs → (o : Position) × Among o qs × (o.path ≡ z.0)
  is_read z m =
      let w = kept_has look (at_path z.0) z zs m (path_itself z.0) in
      let e = sums (at_path z.0) in
      let o = read_from (at_path z.0) qs (omega (arith, w, e)) in (o.0, o.1, sym (path_means z.0 o.0.path o.2))

  pub is_there : (o : Position) → Among o qs → (z : Path × ℕ) × Among z zs × (o.path ≡ z.0)
  is_there o m =
      let w = read_has (at_path o.path) o qs m (path_itself o.path) in
      let e = sums (at_path o.path) in
      let z = kept_from look (at_path o.path) zs (omega (arith, w, e)) in (z.0, z.1, path_means o.path z.0.0 z.2)

  pub last_is : (z : Path × ℕ) → Among z zs → (o : Position) → Among o qs → o.path ≡ z.0 → (u : Source → Bool) → last_of (look (ref z.1)) u ≡ any_of (sources_of o.pairs) u
  last_is z m o n e u =
      let b = last_of (look (ref z.1)) u in
      let test : Test = λ q k. path_eq z.0 q && alike b (k u) in
      let here : test z.0 (last_of (look (ref z.1))) ≡ true = ap₂ (λ c d. c && d) (path_itself z.0) (alike_itself b) in
      let w = kept_has look test z zs m here in
      let s = sums test in
      let y = read_from test qs (omega (arith, w, s)) in
      let same : y.0 ≡ o = same_position y.0 o qs once y.1 n (sym (path_means z.0 y.0.path (both_left _ _ y.2)) ∙ sym e) in
      alike_means b (any_of (sources_of o.pairs) u) (subst (λ (k : Position). alike b (any_of (sources_of k.pairs) u) ≡ true) same (both_right (path_eq z.0 y.0.path) _ y.2))
