-- `abi::desfanuk_load` meets its contract: the loader keeps its promise, and `tell_verdict` says it in words.
use Rattle.abi.proofs.LoadingLaws.{tells-loaded}
use Rattle.abi.proofs.desfanuk_load.Goals as goal

pub returns : goal.returns
returns c = tells-loaded c.load-verdict.ensures c.tell_verdict.ensures
