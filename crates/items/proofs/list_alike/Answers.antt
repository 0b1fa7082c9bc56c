-- `items::list_alike` meets its contract, by the laws of a part written over.
-- Assumes nothing.
use native.Mathlib.Omega.{arith}
use Rattle.items.proofs.Listing.{listed_alike}
use Rattle.items.proofs.list_alike.Goals as goal

pub returns : goal.returns
returns c =
    let p = c.requires in
    listed_alike c.args.w.now _ _ c.args.n _ _ (omega arith) (omega arith) p.0 p.1 c.number.ensures c.number-2.ensures
