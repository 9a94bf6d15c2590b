use Rattle.std.proofs.Common.{ℕ, List, Err, subst, sym, ◌∙◌, arith}
use Rattle.bqn_syntax.specs.text.Tokens.{kind_of, tokens_of_text}
use Rattle.bqn_token.specs.Tokenizing.{Gives, placed}
use Rattle.bqn_token.proofs.Pieces.{error-at, longest-some, longest-inside, alone-kept, short-kept, piece-kept, line-past, column-past, line-behind-is, column-behind-is}
use Rattle.bqn_token.proofs.cut.tokens_in.Goals as goal

pub returns-in-Err : goal.returns-in-Err
returns-in-Err c =
    error-at (tokens_of_text c.args.text.now) c.pieces.tokens.items c.pieces.place c.pieces.rest.now c.in-Some-longest_piece.count c.in-Err.error c.pieces.invariant.same (sym c.longest_piece.ensures ∙ c.in-Some-longest_piece.is)
    (subst (λ (piece : List ℕ). Gives (placed c.pieces.place (kind_of piece)) (Err c.in-Err.error)) c.split_at.ensures.front c.in-Err.ensures)

pub pieces-preserved-in-Some-single : goal.pieces-preserved-in-Some-single
pieces-preserved-in-Some-single c =
    let parts = c.in-Some.ensures.cases.0 in
    let more = c.in-Some.ensures.cases.1 in
    let line = line-past c.in-Some.first.now c.pieces.place c.place_past-place.result c.place_past-place.ensures in
    let column = column-past c.in-Some.first.now c.pieces.place c.place_past-place.result c.place_past-place.ensures in
    record {
      same = alone-kept (tokens_of_text c.args.text.now) c.pieces.tokens.items c.add.new.tokens.items c.pieces.place c.place_past-place.result c.pieces.rest.now c.in-Some.behind.now c.in-Some.first.now c.in-Some-single.alone c.kind_of_alone.result c.pieces.invariant.same parts (sym c.single.ensures ∙ c.in-Some-single.is) c.kind_of_alone.ensures c.add.ensures.added c.place_past-place.ensures;
      line = omega arith;
      column = omega arith;
      room = omega arith;
    }

pub pieces-preserved-then-is_short : goal.pieces-preserved-then-is_short
pieces-preserved-then-is_short c =
    let parts = c.in-Some.ensures.cases.0 in
    let more = c.in-Some.ensures.cases.1 in
    let line = line-past c.in-Some.first.now c.pieces.place c.place_past-place-then-is_short.result c.place_past-place-then-is_short.ensures in
    let column = column-past c.in-Some.first.now c.pieces.place c.place_past-place-then-is_short.result c.place_past-place-then-is_short.ensures in
    record {
      same = short-kept (tokens_of_text c.args.text.now) c.pieces.tokens.items c.add-then-is_short.new.tokens.items c.pieces.place c.place_past-place-then-is_short.result c.pieces.rest.now c.in-Some.behind.now c.in-Some.first.now c.in_ok-kind.kind c.pieces.invariant.same parts (sym c.is_short.ensures ∙ c.if-is_short.true) c.in_ok-kind.ensures c.add-then-is_short.ensures.added c.place_past-place-then-is_short.ensures;
      line = omega arith;
      column = omega arith;
      room = omega arith;
    }

pub split_at-requires : goal.split_at-requires
split_at-requires c = longest-inside c.pieces.rest.now c.in-Some-longest_piece.count (sym c.longest_piece.ensures ∙ c.in-Some-longest_piece.is)

pub pieces-smaller : goal.pieces-smaller
pieces-smaller c =
    let some = longest-some c.pieces.rest.now c.in-Some-longest_piece.count (sym c.longest_piece.ensures ∙ c.in-Some-longest_piece.is) in
    let inside = longest-inside c.pieces.rest.now c.in-Some-longest_piece.count (sym c.longest_piece.ensures ∙ c.in-Some-longest_piece.is) in
    let back = c.split_at.ensures.back_len in
    omega arith

pub pieces-preserved : goal.pieces-preserved
pieces-preserved c =
    let longest = sym c.longest_piece.ensures ∙ c.in-Some-longest_piece.is in
    let some = longest-some c.pieces.rest.now c.in-Some-longest_piece.count longest in
    let inside = longest-inside c.pieces.rest.now c.in-Some-longest_piece.count longest in
    let back = c.split_at.ensures.back_len in
    let front = c.split_at.ensures.front_len in
    let line = line-behind-is c.split_at.result.0.now c.pieces.place c.place_behind-place.result c.place_behind-place.ensures in
    let column = column-behind-is c.split_at.result.0.now c.pieces.place c.place_behind-place.result c.place_behind-place.ensures in
    record {
      same = piece-kept (tokens_of_text c.args.text.now) c.pieces.tokens.items c.add-in-Ok.new.tokens.items c.pieces.place c.place_behind-place.result c.pieces.rest.now c.split_at.result.0.now c.split_at.result.1.now c.in-Some-longest_piece.count c.in-Ok.kind c.pieces.invariant.same longest c.in-Ok.ensures c.split_at.ensures.front c.split_at.ensures.back c.add-in-Ok.ensures.added c.place_behind-place.ensures;
      line = omega arith;
      column = omega arith;
      room = omega arith;
    }
