-- `lists::compare` meets its contract.
use Rattle.lists.proofs.compare.Goals as goal
