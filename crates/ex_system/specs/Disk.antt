-- What a host tells at one moment.
use Rattle.std.specs.Prelude.{ℕ, Bool}
use Rattle.cm_io.specs.Host.{Files}
use Rattle.cm_io.specs.declared.host.Host.{Ghosts}

-- what each name has, if the host tells it; whether a file is open; how many loads and creates the host was asked, and
-- how often it failed
pub record Disk : Type 0 where
  pub tells : Bool
  pub files : Files
  pub is_open : Bool
  pub loads : ℕ
  pub creates : ℕ
  pub faults : ℕ

abbrev pub disk_of : {T : Type 0} → Ghosts T → T → Disk
disk_of h host = record {
  tells = h.tells;
  files = h.files host;
  is_open = h.is_open host;
  loads = h.loads host;
  creates = h.creates host;
  faults = h.faults host;
}
