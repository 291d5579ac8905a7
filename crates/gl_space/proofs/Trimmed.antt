-- What is kept of a text is what stands between the two runs that are removed, and it may be cut out there.
use Rattle.std.proofs.Common.{◌≡◌, ◌≤◌, ◌<◌, ◌+◌, ◌-◌, ℕ, zero, suc, List, [], ◌∷◌, ◌++◌, Bool, true, false, ◌&&◌, cond, ltb, length, take, drop, refl, sym, ap, subst, ◌∙◌, arith, add-one, eqb, is_some, Option, Some, None, get_or, length-append, length-drop}
use Rattle.std.specs.Prelude.{codes}
use Rattle.std.specs.List.{list_all, prefix_len}
use Rattle.std.specs.Str.{IsUtf8, IsCharBoundary}
use Rattle.std.proofs.Math.Seq.{get_or-append_seam, take-append_seam}
use Rattle.std.proofs.lemmas.List.{drop-drop}
use Rattle.std.proofs.lemmas.Str.{IsCharBoundary-before_ascii, IsCharBoundary-from_drop, IsCharBoundary-end}
use Rattle.std.proofs.lemmas.Bool.Decides.{nat_tests}
use Rattle.gl_ast.specs.Marks.{is_white, is_blank}
use Rattle.gl_ast.specs.Scans.{begins, after}
use Rattle.gl_ast.specs.Settling.{strips, front_width, break_width, kept_from, kept}
use Rattle.gl_ast.specs.declared.edge.Edge.{Edge}
use Rattle.gl_ast.specs.declared.edge.Edge.TheVariants.{Keep, Line, White}
use Rattle.gl_ast.proofs.Forward.{Leaves, leaves_nothing, leaves_more, ascii_then, both, if_some, same_byte}
use Rattle.gl_ast.proofs.Progress.{white_low}
use Rattle.gl_space.specs.Trim.{trim}

-- what follows a place
drop_after : (place : ℕ) (text rest : List ℕ) (b : ℕ) → drop place text ≡ b ∷ rest → drop (suc place) text ≡ rest
drop_after zero [] rest b e = cc
drop_after zero (c ∷ text) rest b e = cc
drop_after (suc n) [] rest b e = cc
drop_after (suc n) (c ∷ text) rest b e = drop_after n text rest b e

drop_nothing : (n : ℕ) → drop {A = ℕ} n [] ≡ []
drop_nothing zero = refl
drop_nothing (suc n) = refl

none_left : (p : ℕ → Bool) (bs : List ℕ) → list_all p bs ≡ true → trim p bs ≡ []
none_left p [] e = refl
none_left p (b ∷ bs) e = rw e refl

kept_case : (p : ℕ → Bool) (b : ℕ) (bs more : List ℕ) (t : Bool) → list_all p (b ∷ bs) ≡ t → more ≡ trim p bs → cond t more (b ∷ more) ≡ cond t [] (b ∷ trim p bs)
kept_case p b bs more true e h = h ∙ none_left p bs (both (p b) (list_all p bs) e).1
kept_case p b bs more false e h = ap (λ l. b ∷ l) h

-- one byte more, where the front is removed up to a width
front_case : (front back : Edge) (text bs : List ℕ) (place b : ℕ) → place < front_width front text
    → kept_from front back text (place + 1) bs ≡ trim (strips back) (drop (front_width front text - (place + 1)) bs)
    → kept_from front back text place (b ∷ bs) ≡ trim (strips back) (drop (front_width front text - place) (b ∷ bs))
front_case front back text bs place b h more =
    let low : ltb place (front_width front text) ≡ true = grind (arith, nat_tests) in
    let n : front_width front text - place ≡ suc (front_width front text - (place + 1)) = omega arith in
    rw (low, n) more

back_case : (front back : Edge) (text bs : List ℕ) (place b : ℕ) → front_width front text ≤ place → drop place text ≡ b ∷ bs
    → kept_from front back text (place + 1) bs ≡ trim (strips back) (drop (front_width front text - (place + 1)) bs)
    → kept_from front back text place (b ∷ bs) ≡ trim (strips back) (drop (front_width front text - place) (b ∷ bs))
back_case front back text bs place b h at more =
    let high : ltb place (front_width front text) ≡ false = grind (arith, nat_tests) in
    let n : front_width front text - place ≡ 0 = omega arith in
    let m : front_width front text - (place + 1) ≡ 0 = omega arith in
    let next : kept_from front back text (place + 1) bs ≡ trim (strips back) bs = rw m at more in
    rw (high, n, at) (kept_case (strips back) b bs (kept_from front back text (place + 1) bs) (list_all (strips back) (b ∷ bs)) refl next)

place_case : (front back : Edge) (text bs : List ℕ) (place b : ℕ) (t : Bool) → ltb place (front_width front text) ≡ t → drop place text ≡ b ∷ bs
    → kept_from front back text (place + 1) bs ≡ trim (strips back) (drop (front_width front text - (place + 1)) bs)
    → kept_from front back text place (b ∷ bs) ≡ trim (strips back) (drop (front_width front text - place) (b ∷ bs))
place_case front back text bs place b true e at more = front_case front back text bs place b (grind (arith, nat_tests)) more
place_case front back text bs place b false e at more = back_case front back text bs place b (grind (arith, nat_tests)) at more

kept_rest : (front back : Edge) (text here : List ℕ) (place : ℕ) → drop place text ≡ here
    → kept_from front back text place here ≡ trim (strips back) (drop (front_width front text - place) here)
kept_rest front back text [] place at = sym (ap (λ l. trim (strips back) l) (drop_nothing (front_width front text - place)))
kept_rest front back text (b ∷ bs) place at =
    let more = kept_rest front back text bs (place + 1) (rw add-one (drop_after place text bs b at)) in
    place_case front back text bs place b (ltb place (front_width front text)) refl at more

-- what is kept
pub kept_is : (front back : Edge) (text : List ℕ) → kept front back text ≡ trim (strips back) (drop (front_width front text) text)
kept_is front back text =
    let n : front_width front text - 0 ≡ front_width front text = omega arith in
    kept_rest front back text text 0 refl ∙ ap (λ m. trim (strips back) (drop m text)) n

-- the bytes that are stripped are ASCII
pub strips_low : (edge : Edge) (b : ℕ) → strips edge b ≡ true → b < 128
strips_low Keep b e = cc
strips_low Line b e = grind (arith, nat_tests)
strips_low White b e = white_low b e

suc_is : (n : ℕ) → 1 + n ≡ suc n
suc_is n = omega arith

-- so the text may be cut where a run ends
run_case : (p : ℕ → Bool) → ((b : ℕ) → p b ≡ true → b < 128) → (b : ℕ) (bs : List ℕ) (t : Bool) → p b ≡ t → Leaves bs (drop (prefix_len p bs) bs) → Leaves (b ∷ bs) (drop (cond t (1 + prefix_len p bs) 0) (b ∷ bs))
run_case p low b bs false e h = leaves_nothing (b ∷ bs)
run_case p low b bs true e h = rw (suc_is (prefix_len p bs)) (ascii_then b bs (drop (prefix_len p bs) bs) (low b e) h)

pub run_leaves : (p : ℕ → Bool) → ((b : ℕ) → p b ≡ true → b < 128) → (text : List ℕ) → Leaves text (drop (prefix_len p text) text)
run_leaves p low [] = leaves_nothing []
run_leaves p low (b ∷ bs) = run_case p low b bs (p b) refl (run_leaves p low bs)

-- a line break is ASCII
feed_case : (b : ℕ) (bs : List ℕ) (o : Option (List ℕ)) → after (codes "\n") bs ≡ o → b < 128 → Leaves (b ∷ bs) (drop (cond (is_some o) 2 0) (b ∷ bs))
feed_case b bs None e low = leaves_nothing (b ∷ bs)
feed_case b [] (Some x) e low = cc
feed_case b (c ∷ bs) (Some x) e low =
    let same = same_byte 10 c (if_some (eqb 10 c) (Some bs) x e).0 in
    ascii_then b (c ∷ bs) bs low (ascii_then c bs bs (omega (arith, same)) (leaves_nothing bs))

return_case : (b : ℕ) (bs : List ℕ) (t : Bool) → eqb b 13 ≡ t → Leaves (b ∷ bs) (drop (cond (t && begins (codes "\n") bs) 2 0) (b ∷ bs))
return_case b bs false e = leaves_nothing (b ∷ bs)
return_case b bs true e = feed_case b bs (after (codes "\n") bs) refl (let h = same_byte b 13 e in omega (arith, h))

break_case : (b : ℕ) (bs : List ℕ) (t : Bool) → eqb b 10 ≡ t → Leaves (b ∷ bs) (drop (cond t 1 (cond (eqb b 13 && begins (codes "\n") bs) 2 0)) (b ∷ bs))
break_case b bs true e = ascii_then b bs bs (let h = same_byte b 10 e in omega (arith, h)) (leaves_nothing bs)
break_case b bs false e = return_case b bs (eqb b 13) refl

pub break_leaves : (text : List ℕ) → Leaves text (drop (break_width text) text)
break_leaves [] = leaves_nothing []
break_leaves (b ∷ bs) = break_case b bs (eqb b 10) refl

run_within : (p : ℕ → Bool) (text : List ℕ) → prefix_len p text ≤ length text
run_within p [] = omega arith
run_within p (b ∷ bs) =
    let h = run_within p bs in
    elim (p b) as (λ t. cond t (1 + prefix_len p bs) 0 ≤ length (b ∷ bs)) [ true ↦ omega (arith, h) | false ↦ omega arith ]

feed_within : (b : ℕ) (bs : List ℕ) (o : Option (List ℕ)) → after (codes "\n") bs ≡ o → cond (is_some o) 2 0 ≤ length (b ∷ bs)
feed_within b bs None e = omega arith
feed_within b [] (Some x) e = cc
feed_within b (c ∷ bs) (Some x) e = omega arith

break_within : (text : List ℕ) → break_width text ≤ length text
break_within [] = omega arith
break_within (b ∷ bs) =
    elim (eqb b 10) as (λ t. cond t 1 (cond (eqb b 13 && begins (codes "\n") bs) 2 0) ≤ length (b ∷ bs)) [
      | true ↦ omega arith
      | false ↦ elim (eqb b 13) as (λ t. cond (t && begins (codes "\n") bs) 2 0 ≤ length (b ∷ bs)) [ true ↦ feed_within b bs (after (codes "\n") bs) refl | false ↦ omega arith ]
    ]

pub front_leaves : (edge : Edge) (text : List ℕ) → Leaves text (drop (front_width edge text) text)
front_leaves Keep text = leaves_nothing text
front_leaves White text = run_leaves is_white white_low text
front_leaves Line text =
    let blanks = drop (prefix_len is_blank text) text in
    subst (λ (l : List ℕ). Leaves text l) (drop-drop (break_width blanks) (prefix_len is_blank text) text)
    (leaves_more text blanks (drop (break_width blanks) blanks) (run_leaves is_blank (strips_low Line) text) (break_leaves blanks))

pub front_within : (edge : Edge) (text : List ℕ) → front_width edge text ≤ length text
front_within Keep text = omega arith
front_within White text = run_within is_white text
front_within Line text =
    let h = run_within is_blank text in
    let k = break_within (drop (prefix_len is_blank text) text) in
    omega (arith, h, k, length-drop (prefix_len is_blank text) text)

pub front_border : (edge : Edge) (text : List ℕ) → IsUtf8 text → IsCharBoundary text (front_width edge text)
front_border edge text u = IsCharBoundary-from_drop text (front_width edge text) (front_within edge text) ((front_leaves edge text).2 u)

-- The text may be cut where a run begins that ends it.
abbrev pub IsLow : List ℕ → Type 0
IsLow [] = Unit {0}
IsLow (b ∷ bs) = b < 128

abbrev pub Trims : List ℕ → List ℕ → Type 0
Trims bs front = (back : List ℕ) × (bs ≡ front ++ back) × IsLow back

trims_case : (p : ℕ → Bool) → ((b : ℕ) → p b ≡ true → b < 128) → (b : ℕ) (bs : List ℕ) (t : Bool) → list_all p (b ∷ bs) ≡ t → Trims bs (trim p bs) → Trims (b ∷ bs) (cond t [] (b ∷ trim p bs))
trims_case p low b bs true e h = (b ∷ bs, refl, low b (both (p b) (list_all p bs) e).0)
trims_case p low b bs false e h = (h.0, ap (λ l. b ∷ l) h.1, h.2)

pub trims : (p : ℕ → Bool) → ((b : ℕ) → p b ≡ true → b < 128) → (bs : List ℕ) → Trims bs (trim p bs)
trims p low [] = ([], refl, tt)
trims p low (b ∷ bs) = trims_case p low b bs (list_all p (b ∷ bs)) refl (trims p low bs)

border : (bs front back : List ℕ) → bs ≡ front ++ back → IsLow back → IsCharBoundary bs (length front)
border bs front [] e h =
    let n : length bs ≡ length front = omega (arith, length-append front [], ap length e) in
    subst (λ (i : ℕ). IsCharBoundary bs i) n (IsCharBoundary-end bs)
border bs front (b ∷ back) e h =
    let within : length front < length bs = omega (arith, length-append front (b ∷ back), ap length e) in
    let at : get_or bs (length front) 0 ≡ b = rw e (get_or-append_seam front b back 0) in
    IsCharBoundary-before_ascii bs (length front) within (rw at h)

pub trim_border : (p : ℕ → Bool) → ((b : ℕ) → p b ≡ true → b < 128) → (bs : List ℕ) → IsCharBoundary bs (length (trim p bs))
trim_border p low bs = let t = trims p low bs in border bs (trim p bs) t.0 t.1 t.2

pub trim_take : (p : ℕ → Bool) → ((b : ℕ) → p b ≡ true → b < 128) → (bs : List ℕ) → take (length (trim p bs)) bs ≡ trim p bs
trim_take p low bs = let t = trims p low bs in subst (λ (l : List ℕ). take (length (trim p bs)) l ≡ trim p bs) (sym t.1) (take-append_seam (trim p bs) t.0)

and_false : (x : Bool) → (x && false) ≡ false
and_false true = refl
and_false false = refl

and_true : (x : Bool) → (x && true) ≡ x
and_true true = refl
and_true false = refl

and_assoc : (x y z : Bool) → (x && (y && z)) ≡ ((x && y) && z)
and_assoc true y z = refl
and_assoc false y z = refl

all_last : (p : ℕ → Bool) (front : List ℕ) (b : ℕ) → list_all p (front ++ b ∷ []) ≡ (list_all p front && p b)
all_last p [] b = and_true (p b)
all_last p (c ∷ front) b = ap (λ t. p c && t) (all_last p front b) ∙ and_assoc (p c) (list_all p front) (p b)

-- the run that ends a text, byte by byte from its end
last_case : (p : ℕ → Bool) (c : ℕ) (front : List ℕ) (b : ℕ) (t : Bool) → p b ≡ t → trim p (front ++ b ∷ []) ≡ cond t (trim p front) (front ++ b ∷ [])
    → cond (p c && (list_all p front && t)) [] (c ∷ trim p (front ++ b ∷ [])) ≡ cond t (trim p (c ∷ front)) (c ∷ (front ++ b ∷ []))
last_case p c front b true e more = rw (and_true (list_all p front), more) refl
last_case p c front b false e more = rw (and_false (list_all p front), and_false (p c), more) refl

pub trim_last : (p : ℕ → Bool) (front : List ℕ) (b : ℕ) → trim p (front ++ b ∷ []) ≡ cond (p b) (trim p front) (front ++ b ∷ [])
trim_last p [] b = rw (and_true (p b)) refl
trim_last p (c ∷ front) b = rw (all_last p front b) (last_case p c front b (p b) refl (trim_last p front b))
