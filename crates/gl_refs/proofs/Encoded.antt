-- Texts with the same bytes are the same.
use Rattle.std.proofs.Common.{◌≡◌, ℕ, zero, suc, ◌+◌, List, [], ◌∷◌, ◌++◌, Bool, true, false, cond, ltb, ltb-true, refl, sym, ap, ap₂, arith}
use Rattle.std.specs.Prelude.{◌/◌, ◌%◌}
use Rattle.std.specs.Char.{encode_utf8}
use Rattle.gl_base.specs.Texts.{Text, bytes_of}

abbrev slot : ℕ → List ℕ → ℕ
slot n [] = 0
slot zero (x ∷ xs) = x
slot (suc n) (x ∷ xs) = slot n xs

abbrev after : ℕ → List ℕ → List ℕ
after zero xs = xs
after (suc n) [] = []
after (suc n) (x ∷ xs) = after n xs

abbrev low : ℕ → ℕ
low c = 128 + c % 64

abbrev bytes : Bool → Bool → Bool → ℕ → List ℕ
bytes a b d c = cond a (c ∷ []) (cond b ((192 + c / 64) ∷ low c ∷ []) (cond d ((224 + c / 4096) ∷ low (c / 64) ∷ low c ∷ []) ((240 + c / 262144) ∷ low (c / 4096) ∷ low (c / 64) ∷ low c ∷ [])))

-- the first byte tells how many there are
cut_by : (c d : ℕ) (a b g p q r : Bool) → ltb c 128 ≡ a → ltb c 2048 ≡ b → ltb c 65536 ≡ g → ltb d 128 ≡ p → ltb d 2048 ≡ q → ltb d 65536 ≡ r →
    (xs ys : List ℕ) → bytes a b g c ++ xs ≡ bytes p q r d ++ ys → (c ≡ d) × (xs ≡ ys)
cut_by c d true b g true q r i j k l m n xs ys e = (ap (slot 0) e, ap (after 1) e)
cut_by c d true b g false true r i j k l m n xs ys e = let s = ltb-true c 128 i in let h : c ≡ 192 + d / 64 = ap (slot 0) e in absurd (omega arith)
cut_by c d true b g false false true i j k l m n xs ys e = let s = ltb-true c 128 i in let h : c ≡ 224 + d / 4096 = ap (slot 0) e in absurd (omega arith)
cut_by c d true b g false false false i j k l m n xs ys e = let s = ltb-true c 128 i in let h : c ≡ 240 + d / 262144 = ap (slot 0) e in absurd (omega arith)
cut_by c d false true g true q r i j k l m n xs ys e = let s = ltb-true d 128 l in let h : 192 + c / 64 ≡ d = ap (slot 0) e in absurd (omega arith)
cut_by c d false true g false true r i j k l m n xs ys e =
    let h : 192 + c / 64 ≡ 192 + d / 64 = ap (slot 0) e in let z : 128 + c % 64 ≡ 128 + d % 64 = ap (slot 1) e in (omega arith, ap (after 2) e)
cut_by c d false true g false false true i j k l m n xs ys e = let s = ltb-true c 2048 j in let h : 192 + c / 64 ≡ 224 + d / 4096 = ap (slot 0) e in absurd (omega arith)
cut_by c d false true g false false false i j k l m n xs ys e = let s = ltb-true c 2048 j in let h : 192 + c / 64 ≡ 240 + d / 262144 = ap (slot 0) e in absurd (omega arith)
cut_by c d false false true true q r i j k l m n xs ys e = let s = ltb-true d 128 l in let h : 224 + c / 4096 ≡ d = ap (slot 0) e in absurd (omega arith)
cut_by c d false false true false true r i j k l m n xs ys e = let s = ltb-true d 2048 m in let h : 224 + c / 4096 ≡ 192 + d / 64 = ap (slot 0) e in absurd (omega arith)
cut_by c d false false true false false true i j k l m n xs ys e =
    let h : 224 + c / 4096 ≡ 224 + d / 4096 = ap (slot 0) e in let y : 128 + (c / 64) % 64 ≡ 128 + (d / 64) % 64 = ap (slot 1) e in
    let z : 128 + c % 64 ≡ 128 + d % 64 = ap (slot 2) e in (omega arith, ap (after 3) e)
cut_by c d false false true false false false i j k l m n xs ys e = let s = ltb-true c 65536 k in let h : 224 + c / 4096 ≡ 240 + d / 262144 = ap (slot 0) e in absurd (omega arith)
cut_by c d false false false true q r i j k l m n xs ys e = let s = ltb-true d 128 l in let h : 240 + c / 262144 ≡ d = ap (slot 0) e in absurd (omega arith)
cut_by c d false false false false true r i j k l m n xs ys e = let s = ltb-true d 2048 m in let h : 240 + c / 262144 ≡ 192 + d / 64 = ap (slot 0) e in absurd (omega arith)
cut_by c d false false false false false true i j k l m n xs ys e = let s = ltb-true d 65536 n in let h : 240 + c / 262144 ≡ 224 + d / 4096 = ap (slot 0) e in absurd (omega arith)
cut_by c d false false false false false false i j k l m n xs ys e =
    let h : 240 + c / 262144 ≡ 240 + d / 262144 = ap (slot 0) e in let x : 128 + (c / 4096) % 64 ≡ 128 + (d / 4096) % 64 = ap (slot 1) e in
    let y : 128 + (c / 64) % 64 ≡ 128 + (d / 64) % 64 = ap (slot 2) e in let z : 128 + c % 64 ≡ 128 + d % 64 = ap (slot 3) e in (omega arith, ap (after 4) e)

cut : (c d : ℕ) (xs ys : List ℕ) → encode_utf8 c ++ xs ≡ encode_utf8 d ++ ys → (c ≡ d) × (xs ≡ ys)
unfolding encode_utf8
cut c d xs ys e = cut_by c d (ltb c 128) (ltb c 2048) (ltb c 65536) (ltb d 128) (ltb d 2048) (ltb d 65536) refl refl refl refl refl refl xs ys e

some_bytes_by : (a b g : Bool) (c : ℕ) (xs : List ℕ) → [] ≡ bytes a b g c ++ xs → ⊥
some_bytes_by true b g c xs e = cc
some_bytes_by false true g c xs e = cc
some_bytes_by false false true c xs e = cc
some_bytes_by false false false c xs e = cc

some_bytes : (c : ℕ) (xs : List ℕ) → [] ≡ encode_utf8 c ++ xs → ⊥
unfolding encode_utf8
some_bytes c xs e = some_bytes_by (ltb c 128) (ltb c 2048) (ltb c 65536) c xs e

pub same_bytes : (s t : Text) → bytes_of s ≡ bytes_of t → s ≡ t
same_bytes [] [] e = refl
same_bytes [] (d ∷ t) e = absurd (some_bytes d (bytes_of t) e)
same_bytes (c ∷ s) [] e = absurd (some_bytes c (bytes_of s) (sym e))
same_bytes (c ∷ s) (d ∷ t) e =
    let h = cut c d (bytes_of s) (bytes_of t) e in
    ap₂ (λ x xs. x ∷ xs) h.0 (same_bytes s t h.1)
