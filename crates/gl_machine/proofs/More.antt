-- A scope with further parameters.
use Rattle.std.proofs.Common.{◌≡◌, ℕ, ◌++◌, map, sym, ap, subst}
use Rattle.std.proofs.lemmas.List.{map-append}
use Rattle.gl_plain.specs.State.{Names, MScope, mscope, with_names}
use Rattle.gl_plain.specs.State as s
use Rattle.gl_machine.specs.Sight.{sight, Passing, with_locals}
use Rattle.gl_machine.specs.Params.{Known}
use Rattle.gl_machine.specs.Env.{Env, symbols_at, by_symbol, texts_of, seen}
use Rattle.gl_machine.specs.Placed.{Fits}
use Rattle.gl_machine.proofs.Symbols.{known_both}

pub seen_more : (env : Env) (c : ℕ) (ms : MScope) (w : Passing) (names : Names) → with_locals (map (by_symbol (symbols_at env c)) names) (seen env c ms w) ≡ seen env c (with_names names ms) w
seen_more env c (mscope i args l v) w names = ap (λ t. sight c i args t w) (sym (map-append (by_symbol (symbols_at env c)) l names))

pub names_more : (ms : MScope) (names : Names) → texts_of (s.locals_in (with_names names ms)) ≡ texts_of (s.locals_in ms) ++ texts_of names
names_more (mscope i args l v) names = map-append (λ n. n.0) l names

pub fits_more : (env : Env) (c : ℕ) (ms : MScope) (w : Passing) (names : Names) → Fits env c ms w → Known (symbols_at env c) (texts_of names) → Fits env c (with_names names ms) w
fits_more env c (mscope i args l v) w names fits known = record {
  known = subst (Known (symbols_at env c)) (sym (names_more (mscope i args l v) names)) (known_both (symbols_at env c) (texts_of l) (texts_of names) fits.known known);
  is = fits.is;
  passes = fits.passes;
}
