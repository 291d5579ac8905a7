-- Numbers of names, found by places in lists; and the first character of a text.
use Rattle.std.proofs.Common.{◌≡◌, ℕ, List, [], ◌∷◌, ◌++◌, Bool, true, false, cond, Option, Some, None, length, map, refl, sym, ap, ◌∙◌}
use Rattle.std.specs.Prelude.{MatchOption, encode_utf8, not, ◌&&◌, position}
use Rattle.std.specs.List.{position_or_len}
use Rattle.std.specs.Str.{bytes_eq, chars, IsUtf8}
use Rattle.std.proofs.lemmas.List.{length-map}
use Rattle.std.proofs.lemmas.List.Recursion.{is_position_or_len}
use Rattle.std.proofs.lemmas.Str.{chars_past_char}
use Rattle.gl_base.specs.Texts.{Text}
use Rattle.gl_base.proofs.Chars.{empty_chars}
use Rattle.gl_meaning.specs.Manifest.{Manifest, ClassEntry}
use Rattle.gl_opc.specs.NamePlaces.{rising, all_rising}
use Rattle.gl_opc.specs.Numbers.{number_in}

turned_round : (b : Bool) (n : ℕ) → cond (not b) n 0 ≡ cond b 0 n
turned_round true n = refl
turned_round false n = refl

position_or_len-map : {X Y : Type 0} (p : Y → Bool) (f : X → Y) (xs : List X) → position_or_len p (map f xs) ≡ position_or_len (λ x. p (f x)) xs
position_or_len-map p f xs = is_position_or_len (λ ys. position_or_len p (map f ys)) (λ x. p (f x)) refl (λ x ys. turned_round (p (f x)) _) xs

position-map : {X Y : Type 0} (p : Y → Bool) (f : X → Y) (xs : List X) → position p (map f xs) ≡ position (λ x. p (f x)) xs
position-map p f xs = rw (position_or_len-map p f xs, length-map xs f) refl

-- the number of a name among those of what a list is seen as
pub number_seen : {X Y : Type 0} (n : Text) (f : Y → Text) (seen : X → Y) (xs : List X) (ys : List Y) → map seen xs ≡ ys → position (λ x. bytes_eq n (f (seen x))) xs ≡ number_in (map f ys) n
number_seen n f seen xs ys e =
    sym (position-map (λ y. bytes_eq n (f y)) seen xs) ∙ (sym (position-map (λ t. bytes_eq n t) f (map seen xs)) ∙ ap (λ zs. number_in (map f zs) n) e)

-- the first character of a text, which an iterator gave, and what is after it
pub first_char : {S : Type 0} (rest : S → List ℕ) (s t : S) (r : Option ℕ) (text new old : List ℕ) → IsUtf8 text → rest s ≡ text → new ≡ rest t → old ≡ chars text → MatchOption r ((length (rest s) ≡ 0) × (t ≡ s)) (λ c. rest s ≡ encode_utf8 c ++ rest t) → MatchOption r ((old ≡ []) × (chars new ≡ [])) (λ c. old ≡ c ∷ chars new)
first_char rest s t None text new old u e f g h =
    let none = empty_chars text (sym (ap length e) ∙ h.0) in
    let same : new ≡ text = f ∙ ap rest h.1 ∙ e in
    (g ∙ none, ap chars same ∙ none)
first_char rest s t (Some c) text new old u e f g h = g ∙ chars_past_char text new c u (sym e ∙ h ∙ ap (λ x. encode_utf8 c ++ x) (sym f))

pub map-map : {X Y Z : Type 0} (f : Y → Z) (g : X → Y) (xs : List X) → map (λ x. f (g x)) xs ≡ map f (map g xs)
map-map f g [] = refl
map-map f g (x ∷ xs) = ap (λ ys. f (g x) ∷ ys) (map-map f g xs)

-- what is known of the names of what a list is seen as
pub seen_rising : {X Y : Type 0} (f : Y → Text) (seen : X → Y) (xs : List X) (ys : List Y) → map seen xs ≡ ys → rising (map f ys) ≡ true → rising (map (λ x. f (seen x)) xs) ≡ true
seen_rising f seen xs ys e rise = ap rising (map-map f seen xs ∙ ap (λ zs. map f zs) e) ∙ rise

both : (a b : Bool) → (a && b) ≡ true → (a ≡ true) × (b ≡ true)
both true b e = (refl, e)
both false b e = cc

pub rising_seen : {X Y : Type 0} (f : Y → Text) (seen : X → Y) (xs : List X) (ys : List Y) → map seen xs ≡ ys → rising (map (λ x. f (seen x)) xs) ≡ rising (map f ys)
rising_seen f seen xs ys e = ap rising (map-map f seen xs ∙ ap (λ zs. map f zs) e)

pub all_rises : (m : Manifest) (c : ClassEntry) {all members others classes fields getters actions : Bool}
    → all ≡ (classes && members) → members ≡ (fields && others) → others ≡ (getters && actions)
    → classes ≡ rising (map (λ c. c.name) m.classes) → fields ≡ rising (map (λ f. f.0) c.fields) → getters ≡ rising (map (λ g. g.0) c.getters) → actions ≡ rising (map (λ a. a.0) c.actions)
    → all ≡ all_rising m c
all_rises m c a h o p f g x = rw (a, h, o, p, f, g, x) refl

-- of what is known of all names, the part of each kind of them
module _ (m : Manifest) (c : ClassEntry) (e : all_rising m c ≡ true) where
  abbrev classes : Bool
  classes = rising (map (λ c. c.name) m.classes)

  abbrev fields : Bool
  fields = rising (map (λ f. f.0) c.fields)

  abbrev getters : Bool
  getters = rising (map (λ g. g.0) c.getters)

  abbrev actions : Bool
  actions = rising (map (λ a. a.0) c.actions)

  pub classes_rise : classes ≡ true
  classes_rise = (both classes (fields && (getters && actions)) e).0

  members_rise : (fields && (getters && actions)) ≡ true
  members_rise = (both classes (fields && (getters && actions)) e).1

  pub fields_rise : fields ≡ true
  fields_rise = (both fields (getters && actions) members_rise).0

  others_rise : (getters && actions) ≡ true
  others_rise = (both fields (getters && actions) members_rise).1

  pub getters_rise : getters ≡ true
  getters_rise = (both getters actions others_rise).0

  pub actions_rise : actions ≡ true
  actions_rise = (both getters actions others_rise).1
