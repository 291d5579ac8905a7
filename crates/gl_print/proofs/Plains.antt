-- Texts in which nothing is escaped.
use Rattle.std.proofs.Common.{◌≡◌, ◌<◌, ◌≤◌, ℕ, List, [], ◌∷◌, ◌++◌, Bool, true, false, ltb, refl, sym, ap, ◌∙◌, arith}
use Rattle.std.specs.Prelude.{◌&&◌, ◌==◌, not, nat_lt, encode_utf8, encode_utf8_all}
use Rattle.std.specs.List.{list_all, flat_map}
use Rattle.std.proofs.lemmas.Bool.Decides.{nat_tests}
use Rattle.std.proofs.lemmas.Str.{encode_ascii}
use Rattle.gl_value.specs.Quote.{escaped}
use Rattle.gl_print.specs.Lines.{is_plain}

both : (a b : Bool) → (a && b) ≡ true → (a ≡ true) × (b ≡ true)
both true b h = (refl, h)
both false b h = absurd (let no : false ≡ true = h in cc)

parts_plain : (xs ys : List ℕ) → list_all is_plain (xs ++ ys) ≡ true → (list_all is_plain xs ≡ true) × (list_all is_plain ys ≡ true)
parts_plain [] ys h = (refl, h)
parts_plain (x ∷ xs) ys h =
    let k = both (is_plain x) (list_all is_plain (xs ++ ys)) h in
    let r = parts_plain xs ys k.1 in
    (ap (λ b. b && list_all is_plain xs) k.0 ∙ r.0, r.1)

-- a character that is none of those which are escaped
escaped-none : (c : ℕ) → 32 ≤ c → (c == 34) ≡ false → (c == 92) ≡ false → (c == 127) ≡ false → escaped c ≡ c ∷ []
unfolding escaped
escaped-none c low mark slash end =
    let feed : (c == 10) ≡ false = grind (arith, nat_tests) in
    let return : (c == 13) ≡ false = grind (arith, nat_tests) in
    let tab : (c == 9) ≡ false = grind (arith, nat_tests) in
    let control : nat_lt c 32 ≡ false = grind (arith, nat_tests) in
    rw (mark, slash, feed, return, tab, control, end) refl

escaped-plain : (c : ℕ) → is_plain c ≡ true → escaped c ≡ c ∷ []
escaped-plain c h =
    let a = both (not (nat_lt c 32)) (not (c == 34) && (not (c == 92) && not (c == 127))) h in
    let b = both (not (c == 34)) (not (c == 92) && not (c == 127)) a.1 in
    let d = both (not (c == 92)) (not (c == 127)) b.1 in
    escaped-none c (not_less (nat_lt c 32) refl a.0) (is_not (c == 34) b.0) (is_not (c == 92) d.0) (is_not (c == 127) d.1)
  where
    is_not : (b : Bool) → not b ≡ true → b ≡ false
    is_not false h = refl
    is_not true h = absurd (let no : false ≡ true = h in cc)

    not_less : (b : Bool) → nat_lt c 32 ≡ b → not b ≡ true → 32 ≤ c
    not_less false e h = grind (arith, nat_tests)
    not_less true e h = absurd (let no : false ≡ true = h in cc)

-- a character all of whose bytes are plain
escaped-bytes : (c : ℕ) → list_all is_plain (encode_utf8 c) ≡ true → escaped c ≡ c ∷ []
escaped-bytes c h = low_case (ltb c 128) refl
  where
    low_case : (b : Bool) → ltb c 128 ≡ b → escaped c ≡ c ∷ []
    low_case true e =
        let low : c < 128 = grind (arith, nat_tests) in
        escaped-plain c (both (is_plain c) true (sym (ap (list_all is_plain) (encode_ascii c low)) ∙ h)).0
    low_case false e =
        let high : 128 ≤ c = grind (arith, nat_tests) in
        let mark : (c == 34) ≡ false = grind (arith, nat_tests) in
        let slash : (c == 92) ≡ false = grind (arith, nat_tests) in
        let end : (c == 127) ≡ false = grind (arith, nat_tests) in
        escaped-none c (omega arith) mark slash end

-- a text all of whose bytes are plain is written as it is
pub escaped-text : (cs : List ℕ) → list_all is_plain (encode_utf8_all cs) ≡ true → flat_map escaped cs ≡ cs
escaped-text [] h = refl
escaped-text (c ∷ cs) h =
    let k = parts_plain (encode_utf8 c) (encode_utf8_all cs) h in
    λ t. escaped-bytes c k.0 t ++ escaped-text cs k.1 t
