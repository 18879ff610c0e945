-- The keeper of a file owns all that it reaches, so it may go to another thread.
use denote.RattleType.{RattleType}
use denote.Struct.Struct.{Struct}
use denote.Struct.Declared.{shape}
use denote.Param.Send.{IsSend, struct_send, recorded_send, sendable}
use Rattle.std.proofs.Crossing.{crosses}
use Rattle.sqlite_std_file.specs.contracts.host.Host as host
use Rattle.sqlite_std_file.specs.contracts.host.HostCalls.TheImpl as calls
use Rattle.sqlite_disk.specs.declared.Disk.{Ghosts}
use Rattle.sqlite_disk.specs.contracts.start.Unknown as unknown
use Rattle.sqlite_disk.specs.contracts.start.UnknownStart.TheImpl as start
use Rattle.sqlite_disk.specs.contracts.modelled.Modelled as modelled
use Rattle.sqlite_disk.specs.contracts.modelled.ModelledDisk.TheImpl as disk
use Rattle.sqlite_disk.proofs.modelled.Modelled.TheSendSync as modelled_crossing
use Rattle.sqlite_store.specs.contracts.store.FileStore as store
use Rattle.sqlite_store.specs.contracts.store.FileStoreStore.TheImpl as pages
use Rattle.sqlite_store.proofs.store.FileStore.TheSendSync as store_crossing
use Rattle.am_keeper_sql.proofs.keeper.SqlKeeper.TheSendSync as keeper_crossing
use Rattle.am_keeper_files.specs.contracts.keeper.FileKeeper.{the_row, the_type}

-- a file and its log, as the database has them
abbrev files : RattleType
files = modelled.the_row host.the_row unknown.the_row calls.ghosts start.ghosts

-- what they are as a disk
abbrev on_disk : Ghosts files.Denot
on_disk = disk.ghosts host.the_row unknown.the_row calls.ghosts disk.no_dict start.ghosts disk.no_dict disk.no_dict

host_send : IsSend host.the_row
host_send = search (sendable, crosses) depth 20

files_send : IsSend files
files_send = modelled_crossing.the_send host.the_row unknown.the_row calls.ghosts start.ghosts host_send

pub file_keeper_send : IsSend the_row
file_keeper_send =
    let stored : IsSend (store.the_row files on_disk) = store_crossing.the_send files on_disk files_send in
    recorded_send (Struct (shape the_type)) _ _ the_type.to_one
    (struct_send (shape the_type) (
      keeper_crossing.the_field_send (store.the_row files on_disk)
          (pages.ghosts files on_disk pages.no_dict) stored,
      tt,
    ))
