use denote.Param.Send.{IsSend}
use Rattle.witcall_c.specs.contracts.kept.Kept.{the_row}
use Rattle.witcall_c.proofs.HandlesAreSend.{kept-send}

pub send : IsSend the_row
send = kept-send
