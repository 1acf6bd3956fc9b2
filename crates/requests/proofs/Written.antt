-- What is written of a list of requests is read as these requests.
use mathlib.Core.Path.{refl}
use Rattle.packed.proofs.Packing.{packed_bytes}
use Rattle.requests.specs.Lists.{list_parts, list_of}
use Rattle.requests.specs.Promises.{ListReadsBack}
use Rattle.requests.proofs.Exactly.{list_exactly}

pub list_reads_back : ListReadsBack
list_reads_back rs sized few = (list_exactly (list_of rs) rs (packed_bytes (list_parts rs)) sized few).1 refl
