-- Laws of the texts that tokens stand for.
use Rattle.std.proofs.Common.{◌≡◌, ◌≤◌, ◌<◌, ◌+◌, ◌-◌, ◌*◌, ℕ, zero, suc, List, [], ◌∷◌, ◌++◌, Bool, true, false, length, map, take, drop, refl, sym, ap, ◌∙◌, append_assoc, arith}
use Rattle.std.specs.Prelude.{if◌then◌else◌, cond, Some, None, is_some, nat_eq, nat_le, not, ◌&&◌, ◌==◌}
use Rattle.std.specs.Borrow.{Bor}
use Rattle.std.specs.List.{prefix_len, list_any}
use Rattle.std.specs.Str.{bytes_eq, chars, IsUtf8}
use Rattle.gl_base.specs.Names.{has_text}
use Rattle.gl_base.specs.Texts.{is_ascii_text}
use Rattle.gl_value.proofs.Words.{bytes_eq-word}
use Rattle.std.proofs.lemmas.Bool.Decides.{nat_tests}
use Rattle.gl_ast.specs.Scans.{begins}
use Rattle.gl_ast.specs.TokenText.{unescaped, leads, ends_tag_name, end_name_of}
use Rattle.gl_ast.specs.Words.{number_from}
use Rattle.gl_value.specs.Value.{split, before_first}
use Rattle.gl_exprs.specs.Pieces.{front, is_kept, end_name, add_front, ascii_words}

-- the first of several characters is not the last
front_next : (c d : ℕ) (cs : List ℕ) → front (c ∷ d ∷ cs) ≡ c ∷ front (d ∷ cs)
front_next c d cs =
    let e : length (c ∷ d ∷ cs) - 1 ≡ suc (length cs) = omega arith in
    let f : length (d ∷ cs) - 1 ≡ length cs = omega arith in
    rw (e, f) refl

whether : (b : Bool) (x : List ℕ) → is_some (if b then Some x else None) ≡ b
whether true x = refl
whether false x = refl

pub begins_one : (q : ℕ) (cs : List ℕ) → begins (q ∷ []) cs ≡ leads (λ d. q == d) cs
begins_one q [] = refl
begins_one q (c ∷ cs) = whether (q == c) cs

choose : (b : Bool) (x y : List ℕ) → (if b then y else x) ≡ (if not b then x else y)
choose true x y = refl
choose false x y = refl

pub unescaped_next : (q c : ℕ) (cs : List ℕ) → unescaped q (front (c ∷ cs)) ≡ (if is_kept q c cs then c ∷ unescaped q (front cs) else unescaped q (front cs))
unescaped_next q c [] = refl
unescaped_next q c (d ∷ ds) =
    rw (front_next c d ds, begins_one q (front (d ∷ ds))) (choose (c == 92 && leads (λ x. q == x) (front (d ∷ ds))) (c ∷ unescaped q (front (d ∷ ds))) (unescaped q (front (d ∷ ds))))

-- a character of a string that stands for itself
pub string_kept : (q c : ℕ) (cs out old all : List ℕ) → old ≡ c ∷ cs → is_kept q c cs ≡ true → out ++ unescaped q (front old) ≡ all → (out ++ c ∷ []) ++ unescaped q (front cs) ≡ all
string_kept q c cs out old all e k h =
    let next : unescaped q (front old) ≡ c ∷ unescaped q (front cs) = ap (λ x. unescaped q (front x)) e ∙ rw k at (unescaped_next q c cs) in
    append_assoc out (c ∷ []) (unescaped q (front cs)) ∙ ap (λ x. out ++ x) (sym next) ∙ h

-- one that does not
pub string_passed : (q c : ℕ) (cs out old all : List ℕ) → old ≡ c ∷ cs → is_kept q c cs ≡ false → out ++ unescaped q (front old) ≡ all → out ++ unescaped q (front cs) ≡ all
string_passed q c cs out old all e k h =
    let next : unescaped q (front old) ≡ unescaped q (front cs) = ap (λ x. unescaped q (front x)) e ∙ rw k at (unescaped_next q c cs) in
    ap (λ x. out ++ x) (sym next) ∙ h

-- one more of the first characters
pub first_more : (n m c : ℕ) (cs out old all : List ℕ) → n ≡ suc m → old ≡ c ∷ cs → out ++ take n old ≡ all → (out ++ c ∷ []) ++ take m cs ≡ all
first_more n m c cs out old all e f h = append_assoc out (c ∷ []) (take m cs) ∙ (rw (e, f) at h)

take_empty : (n : ℕ) → take {A = ℕ} n [] ≡ []
take_empty zero = refl
take_empty (suc n) = refl

-- no character is left
pub first_none : (n m : ℕ) (cs out old all : List ℕ) → old ≡ [] → cs ≡ [] → out ++ take n old ≡ all → out ++ take m cs ≡ all
first_none n m cs out old all e f h = ap (λ x. out ++ take m x) f ∙ ap (λ x. out ++ x) (take_empty m ∙ sym (take_empty n)) ∙ ap (λ x. out ++ take n x) (sym e) ∙ h

end_front : (cs : List ℕ) → take (prefix_len (λ c. not (ends_tag_name c)) cs) cs ≡ end_name cs
end_front [] = refl
end_front (c ∷ cs) = elim (ends_tag_name c) as (λ b. take (cond (not b) (1 + prefix_len (λ x. not (ends_tag_name x)) cs) 0) (c ∷ cs) ≡ (if b then [] else c ∷ end_name cs)) [
  | true ↦ refl
  | false ↦ let e : 1 + prefix_len (λ x. not (ends_tag_name x)) cs ≡ suc (prefix_len (λ x. not (ends_tag_name x)) cs) = omega arith in rw e (ap (λ x. c ∷ x) (end_front cs))
]

pub end_name_of-front : (cs : List ℕ) → end_name_of cs ≡ end_name (drop 2 cs)
end_name_of-front cs = end_front (drop 2 cs)

ends_not : (b : Bool) (c : ℕ) (xs ws : List ℕ) → b ≡ false → nat_eq c c ≡ true → bytes_eq (if b then [] else c ∷ xs) (c ∷ ws) ≡ bytes_eq xs ws
ends_not true c xs ws e same = absurd cc
ends_not false c xs ws e same = rw same refl

-- a character that both have
pub name_more : (c d : ℕ) (cs ws rest want : List ℕ) (all : Bool) → rest ≡ c ∷ cs → want ≡ d ∷ ws → d ≡ c → ends_tag_name c ≡ false → bytes_eq (end_name rest) want ≡ all → bytes_eq (end_name cs) ws ≡ all
name_more c d cs ws rest want all e f g k h =
    let same : nat_eq c c ≡ true = grind (arith, nat_tests) in
    let one : want ≡ c ∷ ws = f ∙ ap (λ x. x ∷ ws) g in
    sym (ends_not (ends_tag_name c) c (end_name cs) ws k same) ∙ ap (λ x. bytes_eq (end_name (c ∷ cs)) x) (sym one) ∙ ap (λ x. bytes_eq (end_name x) want) (sym e) ∙ h

pub split_front : (c : ℕ) (cs : List ℕ) → add_front [] (split c cs) ≡ split c cs
split_front c [] = refl
split_front c (x ∷ xs) = elim (nat_eq x c) as (λ b. add_front [] (if b then [] ∷ split c xs else before_first x (split c xs)) ≡ (if b then [] ∷ split c xs else before_first x (split c xs))) [
  | true ↦ refl
  | false ↦ first_is x (split c xs)
] where
  first_is : (x : ℕ) (vs : List (List ℕ)) → add_front [] (before_first x vs) ≡ before_first x vs
  first_is x [] = refl
  first_is x (v ∷ vs) = refl

-- digits make a number no less
number_grows : (n : ℕ) (cs : List ℕ) → n ≤ number_from n cs
number_grows n [] = omega arith
number_grows n (c ∷ cs) = let h = number_grows (n * 10 + (c - 48)) cs in omega arith

-- where the number of the first digits is too large already
pub number_too_large : (limit n c : ℕ) (cs old all : List ℕ) → old ≡ c ∷ cs → limit < n * 10 + (c - 48) → number_from n old ≡ number_from 0 all → nat_le (number_from 0 all) limit ≡ false
number_too_large limit n c cs old all e h f =
    let g = number_grows (n * 10 + (c - 48)) cs in
    let same : number_from (n * 10 + (c - 48)) cs ≡ number_from 0 all = ap (λ x. number_from n x) (sym e) ∙ f in
    grind (arith, nat_tests)

-- one of the words, by bytes and by characters
pub any_word : (n : List ℕ) (ws : List (Bor (List ℕ))) → IsUtf8 n → ascii_words ws ≡ true → list_any (λ (w : Bor (List ℕ)). bytes_eq n w.now) ws ≡ has_text (chars n) (map (λ (w : Bor (List ℕ)). w.now) ws)
any_word n [] u e = refl
any_word n (w ∷ ws) u e =
    let first : is_ascii_text w.now ≡ true = grind arith in
    let more : ascii_words ws ≡ true = grind arith in
    rw (bytes_eq-word n w.now u first, any_word n ws u more) refl
