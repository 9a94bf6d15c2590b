-- The instructions of a body with their places are what its translation lays side by side.
use Rattle.std.proofs.Common.{◌≡◌, List, [], ◌∷◌, map, Option, refl, sym, ap, ◌∙◌}
use Rattle.bqn_base.specs.declared.place.Place.{Place}
use Rattle.bqn_syntax.specs.grammar.Trees.{Header, Stmts, body}
use Rattle.bqn_syntax.specs.grammar.Classes.{Calls}
use Rattle.bqn_syntax.specs.scope.Bodies.{BodyNames}
use Rattle.bqn_code.specs.declared.instr.Instr.{Instr}
use Rattle.bqn_execution.specs.Execution.{with_places, placed_code}
use Rattle.bqn_compile.specs.declared.count.Count.{Count}
use Rattle.bqn_compile.specs.Expressions.{Setting, at_lead}
use Rattle.bqn_compile.specs.Bodies.{put_body, body_code}
use Rattle.bqn_compile.proofs.verified.places.PlacedCodes.{whole}

sides : (xs : List (Instr × Place)) → with_places (map (λ x. x.0) xs) (map (λ x. x.1) xs) ≡ xs
sides [] = refl
sides (x ∷ xs) = ap (λ l. x ∷ l) (sides xs)

pub placed_is : (g : Setting) (own : BodyNames) (calls : Calls) (c : Count) (hd : Option Header) (ss : Stmts) → placed_code (body_code g own calls c (body hd ss)) ≡ put_body at_lead g c hd ss
placed_is g own calls c hd ss =
    sym (λ i. with_places (whole (λ x. x.0) at_lead g c hd ss i) (whole (λ x. x.1) at_lead g c hd ss i)) ∙ sides (put_body at_lead g c hd ss)
