pub mod Uarts
pub mod UartLaws
