pub mod SharedPorts
