use Rattle.cm_speech.proofs.Macs.{mac_read}
use Rattle.cm_speech.proofs.laws.a_mac_address_is_taken_where_it_is_read.Goals as goal

pub returns : goal.returns
returns c = mac_read
