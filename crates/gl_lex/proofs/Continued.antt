-- Bytes at which no token stands, and which more bytes make one, are told to be begun: all tokens but end tags.
use Rattle.std.proofs.Common.{◌≡◌, ◌⊎◌, ◌-◌, ◌+◌, ◌*◌, ℕ, List, [], ◌∷◌, ◌++◌, Bool, true, false, not, ◌||◌, inl, inr, Option, Some, None, length, take, refl, sym, ap, ◌∙◌, subst, eqb, arith}
use Rattle.std.specs.Prelude.{if◌then◌else◌, codes, is_some, nat_le}
use Rattle.std.proofs.Math.Seq.{take-length}
use Rattle.std.proofs.lemmas.Bool.Decides.{nat_tests}
use Rattle.gl_base.specs.Answers.{◌>>=◌}
use Rattle.gl_base.specs.Names.{or_else}
use Rattle.gl_ast.specs.Marks.{is_digit, starts_name, in_name}
use Rattle.gl_ast.specs.Modes.{Found, found}
use Rattle.gl_ast.specs.Scans.{after, begins, after_any, after_all, after_word, after_run, from_first}
use Rattle.gl_ast.specs.Tokens.{IsOneOf}
use Rattle.gl_ast.specs.Words.{read_part, after_space, after_name, after_names, after_long_comment, after_short_comment, after_long_end, shows_long_end, after_tilde, after_opening, after_argument, after_parameters, after_digits, after_head, after_segments, after_path, number_from, fits, goes_on, if_number, after_natural, after_number, after_string}
use Rattle.gl_ast.specs.declared.mode.Mode.{Mode}
use Rattle.gl_ast.specs.declared.token.TokenKind.{TokenKind}
use Rattle.gl_ast.proofs.Forward.{bind_some, if_some, same_byte}
use Rattle.gl_ast.proofs.Longest.{found_left, after_is_front}
use Rattle.gl_lex.proofs.Steps.{grows}

pub nothing_is : {A B : Type 0} (x : A) → ◌≡◌ {A = Option A} None (Some x) → B
nothing_is x e = let r : ⊥ = cc in absurd r

pub or_left : (a b : Bool) → a ≡ true → (a || b) ≡ true
or_left true b e = refl
or_left false b e = let r : ⊥ = cc in absurd r

pub or_right : (a b : Bool) → b ≡ true → (a || b) ≡ true
or_right true b e = refl
or_right false b e = e

-- one of several
pub first_of_three : (a b c : Bool) → a ≡ true → (a || b || c) ≡ true
first_of_three a b c e = or_left (a || b) c (or_left a b e)

pub second_of_three : (a b c : Bool) → b ≡ true → (a || b || c) ≡ true
second_of_three a b c e = or_left (a || b) c (or_right a b e)

pub first_of_four : (a b c d : Bool) → a ≡ true → (a || b || c || d) ≡ true
first_of_four a b c d e = or_left (a || b || c) d (first_of_three a b c e)

pub second_of_four : (a b c d : Bool) → b ≡ true → (a || b || c || d) ≡ true
second_of_four a b c d e = or_left (a || b || c) d (second_of_three a b c e)

pub third_of_four : (a b c d : Bool) → c ≡ true → (a || b || c || d) ≡ true
third_of_four a b c d e = or_left (a || b || c) d (or_right (a || b) c e)

-- Fronts of words.

-- bytes before more begin a word, or have it at their front
pub front_split : (cs bs more x : List ℕ) → after cs (bs ++ more) ≡ Some x → (begins bs cs ≡ true) ⊎ ((y : List ℕ) × (after cs bs ≡ Some y) × (x ≡ y ++ more))
front_split [] bs more x e = inr (bs, refl, cc)
front_split (c ∷ cs) [] more x e = inl refl
front_split (c ∷ cs) (b ∷ bs) more x e =
    let t = if_some (eqb c b) (after cs (bs ++ more)) x e in
    let same = same_byte c b t.0 in
    let back : eqb b c ≡ true = grind (arith, nat_tests) in
    elim (front_split cs bs more x t.1) [ inl h ↦ inl (rw back h) | inr h ↦ inr (h.0, rw (t.0) (h.1), h.2) ]

pub begins_front : (cs bs more x : List ℕ) → after cs (bs ++ more) ≡ Some x → after cs bs ≡ None → begins bs cs ≡ true
begins_front cs bs more x e none = elim (front_split cs bs more x e) [ inl h ↦ h | inr h ↦ nothing_is h.0 (sym none ∙ h.1) ]

pub some_of : {A : Type 0} (o : Option A) → is_some o ≡ true → (x : A) × (o ≡ Some x)
some_of None e = let r : ⊥ = cc in absurd r
some_of (Some x) e = (x, refl)

pub front_rest : (bs cs : List ℕ) → begins bs cs ≡ true → (x : List ℕ) × (cs ≡ bs ++ x)
front_rest bs cs h = let s = some_of (after bs cs) h in (s.0, after_is_front bs cs s.0 s.1)

pub after_more : (cs bs more y : List ℕ) → after cs bs ≡ Some y → after cs (bs ++ more) ≡ Some (y ++ more)
after_more [] bs more y e = let same : bs ≡ y = cc in ap (λ l. Some (l ++ more)) same
after_more (c ∷ cs) [] more y e = nothing_is y e
after_more (c ∷ cs) (b ∷ bs) more y e = let t = if_some (eqb c b) (after cs bs) y e in rw (t.0) (after_more cs bs more y t.1)

pub begins_more : (cs bs more : List ℕ) → begins cs bs ≡ true → begins cs (bs ++ more) ≡ true
begins_more cs bs more h = let s = some_of (after cs bs) h in ap is_some (after_more cs bs more s.0 s.1)

-- a front of one byte is the byte
pub one_sign : (c b : ℕ) (bs : List ℕ) → begins (b ∷ bs) (c ∷ []) ≡ true → after (c ∷ []) (b ∷ bs) ≡ None → ⊥
one_sign c b [] h e =
    let r = front_rest (b ∷ []) (c ∷ []) h in
    let same : c ≡ b = let s = r.1 in cc in
    let t : eqb c b ≡ true = grind (arith, nat_tests) in
    let f : after (c ∷ []) (b ∷ []) ≡ Some [] = rw t refl in
    nothing_is [] (sym e ∙ f)
one_sign c b (x ∷ bs) h e = let r = front_rest (b ∷ x ∷ bs) (c ∷ []) h in let s = r.1 in cc

-- and one of two bytes is the first
pub two_signs : (c d b : ℕ) (bs : List ℕ) → begins (b ∷ bs) (c ∷ d ∷ []) ≡ true → after (c ∷ d ∷ []) (b ∷ bs) ≡ None → begins (b ∷ bs) (c ∷ []) ≡ true
two_signs c d b [] h e =
    let r = front_rest (b ∷ []) (c ∷ d ∷ []) h in
    let same : c ≡ b = let s = r.1 in cc in
    let t : eqb b c ≡ true = grind (arith, nat_tests) in
    rw t refl
two_signs c d b (x ∷ []) h e =
    let r = front_rest (b ∷ x ∷ []) (c ∷ d ∷ []) h in
    let same : c ≡ b = let s = r.1 in cc in
    let also : d ≡ x = let s = r.1 in cc in
    let t : eqb c b ≡ true = grind (arith, nat_tests) in
    let u : eqb d x ≡ true = grind (arith, nat_tests) in
    let f : after (c ∷ d ∷ []) (b ∷ x ∷ []) ≡ Some [] = rw (t, u) refl in
    nothing_is [] (sym e ∙ f)
two_signs c d b (x ∷ y ∷ bs) h e = let r = front_rest (b ∷ x ∷ y ∷ bs) (c ∷ d ∷ []) h in let s = r.1 in absurd cc

-- Words and runs stand with their first byte.

pub word_stands : (first more : ℕ → Bool) (b : ℕ) (bs xs x : List ℕ) → after_word first more (b ∷ xs) ≡ Some x → after_word first more (b ∷ bs) ≡ None → ⊥
word_stands first more b bs xs x e none =
    let t = if_some (first b) (Some (after_all more xs)) x e in
    let f : after_word first more (b ∷ bs) ≡ Some (after_all more bs) = rw (t.0) refl in
    nothing_is (after_all more bs) (sym none ∙ f)

pub letter_stands : (first more : ℕ → Bool) (b : ℕ) (bs : List ℕ) → first b ≡ true → after_word first more (b ∷ bs) ≡ None → ⊥
letter_stands first more b bs e none = let f : after_word first more (b ∷ bs) ≡ Some (after_all more bs) = rw e refl in nothing_is (after_all more bs) (sym none ∙ f)

pub run_stands : (p : List ℕ → Bool) → ((bs more : List ℕ) → p bs ≡ true → p (bs ++ more) ≡ true) → (b : ℕ) (bs more x : List ℕ) → after_run p (b ∷ (bs ++ more)) ≡ Some x → after_run p (b ∷ bs) ≡ None → ⊥
run_stands p mono b bs more x e none = by_test (p (b ∷ bs)) refl where
  by_test : (t : Bool) → p (b ∷ bs) ≡ t → ⊥
  by_test true h = let f : after_run p (b ∷ (bs ++ more)) ≡ None = rw (mono (b ∷ bs) more h) refl in nothing_is x (sym f ∙ e)
  by_test false h = let f : (y : List ℕ) × (after_run p (b ∷ bs) ≡ Some y) = rw h (_, refl) in nothing_is f.0 (sym none ∙ f.1)

pub argument_begun : (b : ℕ) (bs more x : List ℕ) → after_argument ((b ∷ bs) ++ more) ≡ Some x → after_argument (b ∷ bs) ≡ None → begins (b ∷ bs) (codes "@") ≡ true
unfolding after_argument
argument_begun b bs more x e none =
    let s = bind_some (after (codes "@") ((b ∷ bs) ++ more)) after_name x e in
    elim (front_split (codes "@") (b ∷ bs) more s.0 s.1) [
      | inl h ↦ h
      | inr h ↦ by_left h.0 h.1 (subst (λ l. after_name l ≡ Some x) h.2 s.2)
    ] where
      by_left : (y : List ℕ) → after (codes "@") (b ∷ bs) ≡ Some y → after_name (y ++ more) ≡ Some x → begins (b ∷ bs) (codes "@") ≡ true
      by_left [] f g = ap (λ l. begins l (codes "@")) (after_is_front (codes "@") (b ∷ bs) [] f)
      by_left (c ∷ cs) f g =
          let n : (after (codes "@") (b ∷ bs) >>= after_name) ≡ after_name (c ∷ cs) = ap (λ o. o >>= after_name) f in
          absurd (word_stands starts_name in_name c cs (cs ++ more) x g (sym n ∙ none))

head_none : (bs : List ℕ) → after_path bs ≡ None → after_head bs ≡ None
unfolding after_path
head_none bs e = by_head (after_head bs) e where
  by_head : (o : Option (List ℕ)) → (o >>= after_segments) ≡ None → o ≡ None
  by_head None f = refl
  by_head (Some x) f = nothing_is _ (sym f)

pub both_none : {A : Type 0} (o p : Option A) → or_else o p ≡ None → (o ≡ None) × (p ≡ None)
both_none None p e = (refl, e)
both_none (Some x) p e = nothing_is x (sym e)

pub either_some : {A : Type 0} (o p : Option A) (x : A) → or_else o p ≡ Some x → (o ≡ Some x) ⊎ (p ≡ Some x)
either_some None p x e = inr e
either_some (Some y) p x e = inl e

pub path_stands : (b : ℕ) (bs : List ℕ) → starts_name b ≡ true → after_path (b ∷ bs) ≡ None → ⊥
unfolding after_head
path_stands b bs e none = letter_stands starts_name in_name b bs e (both_none (after_argument (b ∷ bs)) (after_name (b ∷ bs)) (head_none (b ∷ bs) none)).1

pub path_begun : (b : ℕ) (bs more x : List ℕ) → after_path ((b ∷ bs) ++ more) ≡ Some x → after_path (b ∷ bs) ≡ None → begins (b ∷ bs) (codes "@") ≡ true
unfolding after_path after_head
path_begun b bs more x e none =
    let s = bind_some (after_head ((b ∷ bs) ++ more)) after_segments x e in
    let n = both_none (after_argument (b ∷ bs)) (after_name (b ∷ bs)) (head_none (b ∷ bs) none) in
    elim (either_some (after_argument ((b ∷ bs) ++ more)) (after_name ((b ∷ bs) ++ more)) s.0 s.1) [
      | inl h ↦ argument_begun b bs more s.0 h n.0
      | inr h ↦ absurd (word_stands starts_name in_name b bs (bs ++ more) s.0 h n.1)
    ]

-- the parameters' first letter is one of a name and of an attribute
pub parameters_first : (b : ℕ) (bs x : List ℕ) → after_parameters (b ∷ bs) ≡ Some x → 97 ≡ b
unfolding after_parameters
parameters_first b bs x e = by_word (after (codes "as") (b ∷ bs)) refl e where
  by_word : (o : Option (List ℕ)) → after (codes "as") (b ∷ bs) ≡ o → (o >>= after_space >>= after (codes "|") >>= after_names >>= after (codes "|")) ≡ Some x → 97 ≡ b
  by_word None f g = nothing_is x g
  by_word (Some y) f g = same_byte 97 b (if_some (eqb 97 b) (after (codes "s") bs) y f).0

-- Numbers.

all_front : (p : ℕ → Bool) (xs ys : List ℕ) → after_all p (xs ++ ys) ≡ [] → after_all p xs ≡ []
all_front p [] ys e = refl
all_front p (x ∷ xs) ys e = by_test (p x) refl e (all_front p xs ys) where
  by_test : (t : Bool) → p x ≡ t → (if t then after_all p (xs ++ ys) else x ∷ (xs ++ ys)) ≡ [] → (after_all p (xs ++ ys) ≡ [] → after_all p xs ≡ []) → after_all p (x ∷ xs) ≡ []
  by_test true h f more = rw h (more f)
  by_test false h f more = let r : ⊥ = cc in absurd r

number_join : (n : ℕ) (xs ys : List ℕ) → number_from n (xs ++ ys) ≡ number_from (number_from n xs) ys
number_join n [] ys = refl
number_join n (x ∷ xs) ys = number_join (n * 10 + (x - 48)) xs ys

within_front : (limit : ℕ) (xs ys : List ℕ) → nat_le (number_from 0 (xs ++ ys)) limit ≡ true → nat_le (number_from 0 xs) limit ≡ true
within_front limit xs ys e =
    let j = number_join 0 xs ys in
    let g = grows (number_from 0 xs) ys in
    grind (arith, nat_tests)

fits_front : (xs ys : List ℕ) → fits (xs ++ ys) ≡ true → fits xs ≡ true
unfolding fits
fits_front xs ys e = within_front _ xs ys e

read_all : (w : List ℕ) → read_part w [] ≡ w
read_all w = let n : length w - 0 ≡ length w = omega arith in ap (λ i. take i w) n ∙ take-length w

number_all : (w x : List ℕ) → if_number w x ≡ Some [] → (x ≡ []) × (fits w ≡ true)
number_all w x e = by_test (goes_on x) (fits (read_part w x)) refl e where
  by_test : (a b : Bool) → fits (read_part w x) ≡ b → (if a || not b then None else Some x) ≡ Some [] → (x ≡ []) × (fits w ≡ true)
  by_test true b f g = nothing_is [] g
  by_test false false f g = nothing_is [] g
  by_test false true f g = let same : x ≡ [] = cc in (same, ap fits (sym (read_all w) ∙ ap (read_part w) (sym same)) ∙ f)

natural_stands : (c : ℕ) (cs more : List ℕ) → after_natural ((c ∷ cs) ++ more) ≡ Some [] → after_natural (c ∷ cs) ≡ None → ⊥
unfolding after_natural
natural_stands c cs more e none =
    let s = bind_some (after_digits ((c ∷ cs) ++ more)) (if_number ((c ∷ cs) ++ more)) [] e in
    let n = number_all ((c ∷ cs) ++ more) s.0 s.2 in
    let t = if_some (is_digit c) (Some (after_all is_digit (cs ++ more))) s.0 s.1 in
    let left : after_all is_digit (cs ++ more) ≡ s.0 = let h = t.1 in cc in
    let rest : after_all is_digit cs ≡ [] = all_front is_digit cs more (left ∙ n.0) in
    let digits : after_digits (c ∷ cs) ≡ Some [] = rw (t.0) (ap Some rest) in
    let fit : fits (c ∷ cs) ≡ true = fits_front (c ∷ cs) more n.1 in
    let number : if_number (c ∷ cs) [] ≡ Some [] = rw (ap fits (read_all (c ∷ cs)) ∙ fit) refl in
    let all : (after_digits (c ∷ cs) >>= if_number (c ∷ cs)) ≡ Some [] = ap (λ o. o >>= if_number (c ∷ cs)) digits ∙ number in
    nothing_is [] (sym none ∙ all)

pub number_begun : (b : ℕ) (bs more : List ℕ) → after_number ((b ∷ bs) ++ more) ≡ Some [] → after_number (b ∷ bs) ≡ None → begins (b ∷ bs) (codes "-") ≡ true
unfolding after_number
number_begun b bs more e none = by_sign (eqb 45 b) refl bs e none where
  by_sign : (t : Bool) → eqb 45 b ≡ t → (ys : List ℕ) → after_natural (after_any (codes "-") ((b ∷ ys) ++ more)) ≡ Some [] → after_natural (after_any (codes "-") (b ∷ ys)) ≡ None → begins (b ∷ ys) (codes "-") ≡ true
  by_sign true t [] f g = let back : eqb b 45 ≡ true = (let same = same_byte 45 b t in grind (arith, nat_tests)) in rw back refl
  by_sign true t (y ∷ ys) f g =
      let first : after_any (codes "-") ((b ∷ y ∷ ys) ++ more) ≡ (y ∷ ys) ++ more = rw t refl in
      let second : after_any (codes "-") (b ∷ y ∷ ys) ≡ y ∷ ys = rw t refl in
      absurd (natural_stands y ys more (ap after_natural (sym first) ∙ f) (ap after_natural (sym second) ∙ g))
  by_sign false t ys f g =
      let first : after_any (codes "-") ((b ∷ ys) ++ more) ≡ (b ∷ ys) ++ more = rw t refl in
      let second : after_any (codes "-") (b ∷ ys) ≡ b ∷ ys = rw t refl in
      absurd (natural_stands b ys more (ap after_natural (sym first) ∙ f) (ap after_natural (sym second) ∙ g))

-- a string has its quote at the front
pub string_begun : (q b : ℕ) (bs x : List ℕ) → after_string q (b ∷ bs) ≡ Some x → (ys : List ℕ) → begins (q ∷ []) (b ∷ ys) ≡ true
unfolding after_string
string_begun q b bs x e ys =
    let s = bind_some (after (q ∷ []) (b ∷ bs)) _ x e in
    let t = if_some (eqb q b) (Some bs) s.0 s.1 in
    rw (t.0) refl

-- Mustaches.

pub braces : (cs w x : List ℕ) → after (123 ∷ 123 ∷ cs) w ≡ Some x → (y : List ℕ) × (after (123 ∷ 123 ∷ []) w ≡ Some y)
braces cs w x e = let is = after_is_front (123 ∷ 123 ∷ cs) w x e in (cs ++ x, rw is refl)

pub long_braces : (w x : List ℕ) → after_long_comment w ≡ Some x → (y : List ℕ) × (after (codes "{{") w ≡ Some y)
unfolding after_long_comment
long_braces w x e = by_front (or_else (after (codes "{{!--") w) (after (codes "{{~!--") w)) refl e where
  by_front : (o : Option (List ℕ)) → or_else (after (codes "{{!--") w) (after (codes "{{~!--") w) ≡ o → (o >>= from_first shows_long_end >>= after_long_end) ≡ Some x → (y : List ℕ) × (after (codes "{{") w ≡ Some y)
  by_front None f g = nothing_is x g
  by_front (Some z) f g = elim (either_some (after (codes "{{!--") w) (after (codes "{{~!--") w) z f) [ inl h ↦ braces (codes "!--") w z h | inr h ↦ braces (codes "~!--") w z h ]

pub short_braces : (w x : List ℕ) → after_short_comment w ≡ Some x → (y : List ℕ) × (after (codes "{{") w ≡ Some y)
unfolding after_short_comment
short_braces w x e = by_front (or_else (after (codes "{{!") w) (after (codes "{{~!") w)) refl e where
  by_front : (o : Option (List ℕ)) → or_else (after (codes "{{!") w) (after (codes "{{~!") w) ≡ o → (o >>= from_first (begins (codes "}}")) >>= after (codes "}}")) ≡ Some x → (y : List ℕ) × (after (codes "{{") w ≡ Some y)
  by_front None f g = nothing_is x g
  by_front (Some z) f g = elim (either_some (after (codes "{{!") w) (after (codes "{{~!") w) z f) [ inl h ↦ braces (codes "!") w z h | inr h ↦ braces (codes "~!") w z h ]

pub opening_braces : (w x : List ℕ) → after_opening w ≡ Some x → (y : List ℕ) × (after (codes "{{") w ≡ Some y)
unfolding after_opening
opening_braces w x e = let s = bind_some (after (codes "{{") w) after_tilde x e in (s.0, s.1)

-- where no mustache opens, and more bytes open one, the first brace stands
pub brace_begun : (b : ℕ) (bs more y : List ℕ) → after (codes "{{") ((b ∷ bs) ++ more) ≡ Some y → after_opening (b ∷ bs) ≡ None → begins (b ∷ bs) (codes "{") ≡ true
unfolding after_opening
brace_begun b bs more y e none = by_front (after (codes "{{") (b ∷ bs)) refl none where
  by_front : (o : Option (List ℕ)) → after (codes "{{") (b ∷ bs) ≡ o → (o >>= after_tilde) ≡ None → begins (b ∷ bs) (codes "{") ≡ true
  by_front None f g = two_signs 123 123 b bs (begins_front (codes "{{") (b ∷ bs) more y e f) f
  by_front (Some z) f g = nothing_is _ (sym g)

-- Forms.

-- each of them that takes all leads to this
abbrev pub Lead : Type 0 → List (Option Found) → Type 0
Lead G [] = Unit {0}
Lead G (o ∷ os) = ((f : Found) → o ≡ Some f → f.1 ≡ [] → G) × Lead G os

pub one_leads : (G : Type 0) (os : List (Option Found)) → Lead G os → (f : Found) → IsOneOf f os → f.1 ≡ [] → G
one_leads G [] h f is e = absurd is
one_leads G (o ∷ os) h f (inl is) e = h.0 f is e
one_leads G (o ∷ os) h f (inr is) e = one_leads G os h.1 f is e

pub form : {G : Type 0} (kind : TokenKind) (next : Mode) (left : Option (List ℕ)) → (left ≡ Some [] → G) → (f : Found) → found kind next left ≡ Some f → f.1 ≡ [] → G
form kind next left h f e n = h (found_left kind next left f e ∙ ap Some n)

pub found_none : (kind : TokenKind) (next : Mode) (left : Option (List ℕ)) → found kind next left ≡ None → left ≡ None
found_none kind next None e = refl
found_none kind next (Some x) e = nothing_is _ (sym e)
